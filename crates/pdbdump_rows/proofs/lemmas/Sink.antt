-- Rows that are written one after another.
use Rattle.std.proofs.Common.{◌≡◌, ℕ, List, [], ◌∷◌, ◌++◌, Option, Some, None, Result, Ok, Err, refl, sym, ap, subst}
use Rattle.std.proofs.Common.{◌∙◌, false, true, true≢false, MutBor}
use Rattle.std.specs.Option.{is_some}
use Rattle.std.proofs.lemmas.List.{append-nil}
use Rattle.pdb_base.specs.declared.error.Error.{Error}
use Rattle.pdb_base.specs.declared.error.Error.TheVariants.{OutOfMemory}
use Rattle.pdb_output.specs.Output.{OutputState, Writes}
use Rattle.pdbdump_rows.specs.declared.form.Form.{Form}
use Rattle.pdbdump_rows.specs.declared.rows.Rows.{Rows}
use Rattle.pdbdump_rows.specs.Line.{AddsFields, AddsRow, IsLineWritten, LineState, begun}
use Rattle.pdbdump_rows.specs.Lines.{row_text}
use Rattle.pdbdump_rows.specs.Row.{ShownRow}
use Rattle.pdbdump_rows.specs.Rows.{AreLines, WritesLines}
use Rattle.pdbdump_rows.specs.Sink.{AddsLine, AddsLines, AreAsBefore, IsRowEnded, WritesOn, ended, lacking}
use Rattle.pdbdump_rows.proofs.lemmas.Line.{row_of}
use Rattle.pdbdump_rows.proofs.lemmas.Rows.{lines_lack, lines_more, lines_none, row_alone}

goes_nowhere : (form : Form) (fault : Option Error) (out : OutputState) → WritesOn (AreLines form) fault out fault out
goes_nowhere form None out = lines_none form out
goes_nowhere form (Some fault) out = (refl, refl)

-- nothing is written after a fault
after_fault : (form : Form) (old now new : OutputState) (first : Error) (fault : Option Error)
    → WritesOn (AreLines form) (Some first) now fault new → WritesLines form old now (Err first)
    → WritesLines form old new (ended fault)
after_fault form old now new first fault next before =
    subst (λ (out : OutputState). WritesLines form old out (ended fault)) (sym next.1)
    (subst (λ (is : Option Error). WritesLines form old now (ended is)) (sym next.0) before)

goes_further : (form : Form) (fault now_fault new_fault : Option Error) (old now new : OutputState)
    → WritesOn (AreLines form) now_fault now new_fault new → WritesOn (AreLines form) fault old now_fault now
    → WritesOn (AreLines form) fault old new_fault new
goes_further form None None new_fault old now new next before =
    lines_more form old now new (ended new_fault) next before
goes_further form None (Some first) new_fault old now new next before =
    after_fault form old now new first new_fault next before
goes_further form (Some first) now_fault new_fault old now new next before =
    let same : WritesOn (AreLines form) (Some first) now new_fault new =
    subst (λ (is : Option Error). WritesOn (AreLines form) is now new_fault new) before.0 next in
    (same.0, same.1 ∙ before.1)

-- what is written is more than this
goes_as : (Holds More : List ℕ → Type 0) (fault new_fault : Option Error) (old new : OutputState)
    → ((text : List ℕ) → Holds text → More text) → WritesOn Holds fault old new_fault new
    → WritesOn More fault old new_fault new
goes_as Holds More None new_fault old new more writes =
    record { text = writes.text; holds = more writes.text writes.holds; written = writes.written }
goes_as Holds More (Some first) new_fault old new more writes = writes

-- ---- lines

-- no line
pub adds_none : {W : Type 0} (rows : Rows W) → AddsLines rows rows
unfolding AddsLines
adds_none rows =
    record { same = refl; form = refl; text = goes_nowhere rows.sheet.now.form rows.sheet.now.fault rows.out.now }

-- no line, though others of their fields change
pub adds_same : {W : Type 0} (old new : Rows W) → new.out ≡ old.out → new.sheet.now.form ≡ old.sheet.now.form
    → new.sheet.now.fault ≡ old.sheet.now.fault → AddsLines old new
unfolding AddsLines
adds_same old new out form fault = record {
  same = ap (λ (is : MutBor OutputState). is.ghost_name) out;
  form = form;
  text = subst (λ (is : MutBor OutputState). WritesOn (AreLines old.sheet.now.form) old.sheet.now.fault old.out.now
      new.sheet.now.fault is.now) (sym out)
      (subst (λ (is : Option Error). WritesOn (AreLines old.sheet.now.form) old.sheet.now.fault old.out.now is
      old.out.now) (sym fault) (goes_nowhere old.sheet.now.form old.sheet.now.fault old.out.now));
}

-- lines behind others
pub adds_more : {W : Type 0} (old now new : Rows W) → AddsLines now new → AddsLines old now → AddsLines old new
unfolding AddsLines
adds_more old now new next before = record {
  same = next.same ∙ before.same;
  form = next.form ∙ before.form;
  text = goes_further old.sheet.now.form old.sheet.now.fault now.sheet.now.fault new.sheet.now.fault old.out.now
      now.out.now new.out.now
      (subst (λ (is : Form). WritesOn (AreLines is) now.sheet.now.fault now.out.now new.sheet.now.fault new.out.now)
      before.form next.text)
      before.text;
}

-- a row
pub line_adds : {W : Type 0} (row : ShownRow) (old new : Rows W) → AddsLine row old new → AddsLines old new
unfolding AddsLine AddsLines
line_adds row old new adds = record {
  same = adds.same;
  form = adds.form;
  text = goes_as (λ (text : List ℕ). text ≡ row_text old.sheet.now.form row) (AreLines old.sheet.now.form)
      old.sheet.now.fault new.sheet.now.fault old.out.now new.out.now
      (λ text is. record {
        fronts = row ∷ [];
        rows = row_alone old.sheet.now.form row text
            (record { rest = []; shown = is ∙ ap (row_text old.sheet.now.form) (sym (append-nil row)) });
      }) adds.text;
}

-- ---- the end of a row

-- what goes on if there was no fault
goes_if_none : (Holds : List ℕ → Type 0) (fault new_fault : Option Error) (old new : OutputState)
    → is_some fault ≡ false → WritesOn Holds None old new_fault new → WritesOn Holds fault old new_fault new
goes_if_none Holds None new_fault old new none goes = goes
goes_if_none Holds (Some first) new_fault old new none goes = absurd (true≢false none)

-- the line of a row is written, or why it isn't is noted
pub ends_at : (form : Form) (row : ShownRow) (start line : LineState) (old new : OutputState)
    (fault new_fault : Option Error) (result : Result (Unit {0}) Error) → is_some fault ≡ false
    → result ≡ ended new_fault → IsLineWritten line old new result → AddsFields row start line → start ≡ begun form
    → WritesOn (λ text. text ≡ row_text form row) fault old new_fault new
ends_at form row start line old new fault new_fault result none is written adds first =
    goes_if_none (λ text. text ≡ row_text form row) fault new_fault old new none
    (record {
      text = row_text form row;
      holds = refl;
      written = subst (Writes (row_text form row) old new) is (written.row form start row adds first);
    })

-- without a fault
pub none_is : (fault : Option Error) → is_some fault ≡ false → Ok tt ≡ ended fault
none_is None none = refl
none_is (Some fault) none = absurd (true≢false none)

-- nothing is written after a fault
goes_failed : (Holds : List ℕ → Type 0) (fault : Option Error) (out : OutputState) → is_some fault ≡ true
    → WritesOn Holds fault out fault out
goes_failed Holds None out some = absurd (true≢false (sym some))
goes_failed Holds (Some first) out some = (refl, refl)

pub ends_failed : {W : Type 0} (rows : Rows W) → is_some rows.sheet.now.fault ≡ true → IsRowEnded rows rows
unfolding AddsLine
ends_failed rows some = record {
  row = λ start row adds first. record {
    same = refl;
    form = refl;
    text = goes_failed (λ text. text ≡ row_text rows.sheet.now.form row) rows.sheet.now.fault rows.out.now some;
  };
}

-- memory ran out
pub lacking_first : (fault : Option Error) → is_some fault ≡ false → Some OutOfMemory ≡ lacking fault
lacking_first None none = refl
lacking_first (Some fault) none = absurd (true≢false none)

pub lacking_again : (fault : Option Error) → is_some fault ≡ true → fault ≡ lacking fault
lacking_again None some = absurd (true≢false (sym some))
lacking_again (Some fault) some = refl

goes_lacking : (form : Form) (fault : Option Error) (out : OutputState)
    → WritesOn (AreLines form) fault out (lacking fault) out
goes_lacking form None out = lines_lack form out OutOfMemory refl
goes_lacking form (Some fault) out = (refl, refl)

pub adds_lacking : {W : Type 0} (old new : Rows W) → new.out ≡ old.out → new.sheet.now.form ≡ old.sheet.now.form
    → new.sheet.now.fault ≡ lacking old.sheet.now.fault → AddsLines old new
unfolding AddsLines
adds_lacking old new out form fault = record {
  same = ap (λ (is : MutBor OutputState). is.ghost_name) out;
  form = form;
  text = subst (λ (is : MutBor OutputState). WritesOn (AreLines old.sheet.now.form) old.sheet.now.fault old.out.now
      new.sheet.now.fault is.now) (sym out)
      (subst (λ (is : Option Error). WritesOn (AreLines old.sheet.now.form) old.sheet.now.fault old.out.now is
      old.out.now) (sym fault) (goes_lacking old.sheet.now.form old.sheet.now.fault old.out.now));
}

-- ---- a row that was begun

-- one row, behind what wrote nothing
line_behind : {W : Type 0} (row : ShownRow) (old now new : Rows W) → AreAsBefore old now → AddsLine row now new
    → AddsLine row old new
unfolding AddsLine
line_behind row old now new before next = record {
  same = next.same ∙ ap (λ (is : MutBor OutputState). is.ghost_name) before.out;
  form = next.form ∙ before.form;
  text = subst (λ (is : Form). WritesOn (λ text. text ≡ row_text is row) old.sheet.now.fault old.out.now
      new.sheet.now.fault new.out.now) before.form
      (subst (λ (is : Option Error). WritesOn (λ text. text ≡ row_text now.sheet.now.form row) is old.out.now
      new.sheet.now.fault new.out.now) before.fault
      (subst (λ (is : MutBor OutputState). WritesOn (λ text. text ≡ row_text now.sheet.now.form row)
      now.sheet.now.fault is.now new.sheet.now.fault new.out.now) before.out next.text));
}

-- the row of fields that were added
pub row_adds : {W : Type 0} (row : ShownRow) (old begun_rows made new : Rows W) → AreAsBefore old begun_rows
    → IsRowEnded made new → made.out ≡ begun_rows.out → made.sheet.now.form ≡ begun_rows.sheet.now.form
    → made.sheet.now.fault ≡ begun_rows.sheet.now.fault
    → begun_rows.sheet.now.line ≡ begun begun_rows.sheet.now.form
    → AddsFields row begun_rows.sheet.now.line made.sheet.now.line → AddsLine row old new
row_adds row old begun_rows made new before ends out form fault first adds =
    line_behind row old made new
    (record { out = out ∙ before.out; form = form ∙ before.form; fault = fault ∙ before.fault })
    (ends.row begun_rows.sheet.now.line row adds (first ∙ ap begun (sym form)))

-- a row of which the first fields are known
pub adds_row : {W : Type 0} (old begun_rows made new : Rows W) (front : ShownRow) → AddsLines old begun_rows
    → IsRowEnded made new → made.out ≡ begun_rows.out → made.sheet.now.form ≡ begun_rows.sheet.now.form
    → made.sheet.now.fault ≡ begun_rows.sheet.now.fault
    → begun_rows.sheet.now.line ≡ begun begun_rows.sheet.now.form
    → AddsRow front begun_rows.sheet.now.line made.sheet.now.line → AddsLines old new
adds_row old begun_rows made new front before ends out form fault first adds =
    let row = row_of front begun_rows.sheet.now.line made.sheet.now.line adds in
    adds_more old made new
    (line_adds (front ++ row.0) made new
    (ends.row begun_rows.sheet.now.line (front ++ row.0) row.1 (first ∙ ap begun (sym form))))
    (adds_more old begun_rows made (adds_same begun_rows made out form fault) before)

-- what is written in all, on an output that the rows had
pub lines_of_rows : {W : Type 0} (form : Form) (rows new ended_rows : Rows W) (old last : OutputState)
    (result : Result (Unit {0}) Error) → AddsLines rows new → rows.sheet.now.form ≡ form
    → rows.sheet.now.fault ≡ None → rows.out.now ≡ old → ended_rows.out ≡ new.out → result ≡ ended new.sheet.now.fault
    → (rows.out.ghost_name ≡ ended_rows.out.ghost_name → last ≡ ended_rows.out.now)
    → WritesLines form old last result
unfolding AddsLines
lines_of_rows form rows new ended_rows old last result adds same good first out is lends =
    let named : rows.out.ghost_name ≡ ended_rows.out.ghost_name =
    sym (ap (λ (borrow : MutBor OutputState). borrow.ghost_name) out ∙ adds.same) in
    let here : new.out.now ≡ last = sym (lends named ∙ ap (λ (borrow : MutBor OutputState). borrow.now) out) in
    let fault = new.sheet.now.fault in
    subst (λ (at : OutputState). WritesLines form old at result) here
    (subst (WritesLines form old new.out.now) (sym is)
    (subst (λ (at : OutputState). WritesOn (AreLines form) None at fault new.out.now) first
    (subst (λ (was : Option Error). WritesOn (AreLines form) was rows.out.now fault new.out.now) good
    (subst (λ (other : Form). WritesOn (AreLines other) rows.sheet.now.fault rows.out.now fault new.out.now) same
    adds.text))))

pub ruleset adding_lines = (adds_none, adds_same, adds_more, adds_row, lines_of_rows)
