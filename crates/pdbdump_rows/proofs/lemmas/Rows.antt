-- Rows that are written one after another.
use Rattle.std.proofs.Common.{◌≡◌, ℕ, List, [], ◌∷◌, ◌++◌, Result, Ok, Err, refl, sym, ap, subst, ◌∙◌, append_assoc}
use Rattle.std.proofs.lemmas.List.{append-nil}
use Rattle.std.proofs.KnownBytes.{Appends-nil}
use Rattle.std.specs.Result.{IsErr, IsErrAnd}
use Rattle.pdb_base.specs.declared.error.Error.{Error}
use Rattle.pdb_base.specs.declared.error.Error.TheVariants.{OutOfMemory}
use Rattle.pdb_output.specs.Output.{OutputState, Gets}
use Rattle.pdb_output.proofs.lemmas.Written.{first_cut, lacks_all, second_writes}
use Rattle.pdbdump_rows.specs.declared.form.Form.{Form}
use Rattle.pdbdump_rows.specs.Line.{AddsRow, HasText, IsLineWritten, IsRow, LineState, WritesWhat, begun}
use Rattle.pdbdump_rows.specs.Lines.{row_text}
use Rattle.pdbdump_rows.specs.Row.{ShownRow}
use Rattle.pdbdump_rows.proofs.lemmas.Line.{row_written}
use Rattle.pdbdump_rows.specs.Rows.{AreLines, AreRows, AreRowsSoFar, WritesLines, more, none}

-- rows behind others
pub rows_joined : (form : Form) (fronts others : List ShownRow) (text rest : List ℕ) → AreRows form fronts text
    → AreRows form others rest → AreRows form (fronts ++ others) (text ++ rest)
rows_joined form _ others _ rest none next = next
rows_joined form _ others _ rest (more front fronts line lines row rows) next =
    subst (AreRows form (front ∷ (fronts ++ others))) (sym (append_assoc line lines rest))
    (more front (fronts ++ others) line (lines ++ rest) row (rows_joined form fronts others lines rest rows next))

-- one row
pub row_alone : (form : Form) (front : ShownRow) (line : List ℕ) → IsRow (row_text form) front line
    → AreRows form (front ∷ []) line
row_alone form front line row =
    subst (AreRows form (front ∷ [])) (append-nil line) (more front [] line [] row none)

-- rows that have no further fields
bare : Form → List ShownRow → List ℕ
bare form [] = []
bare form (front ∷ fronts) = row_text form (front ++ []) ++ bare form fronts

bare_rows : (form : Form) (fronts : List ShownRow) → AreRows form fronts (bare form fronts)
unfolding bare
bare_rows form [] = none
bare_rows form (front ∷ fronts) =
    more front fronts (row_text form (front ++ [])) (bare form fronts) (record { rest = []; shown = refl })
    (bare_rows form fronts)

-- ---- rows so far

gets_nothing : (old : OutputState) → Gets old old []
gets_nothing old = record { holds = refl; added = Appends-nil old.contents }

-- nothing is written
pub so_far_none : (form : Form) (fronts : List ShownRow) (old : OutputState) → AreRowsSoFar form fronts fronts old old
so_far_none form fronts old =
    record { done = []; text = []; split = refl; rows = none; got = gets_nothing old }

-- one row more
pub so_far_more : (form : Form) (fronts left rest : List ShownRow) (front : ShownRow) (old now new : OutputState)
    → left ≡ front ∷ rest → AreRowsSoFar form fronts left old now
    → WritesWhat (IsRow (row_text form) front) now new (Ok tt) → AreRowsSoFar form fronts rest old new
so_far_more form fronts left rest front old now new next before row = record {
  done = before.done ++ front ∷ [];
  text = before.text ++ row.text;
  split = before.split ∙ ap (λ (others : List ShownRow). before.done ++ others) next
      ∙ sym (append_assoc before.done (front ∷ []) rest);
  rows = rows_joined form before.done (front ∷ []) before.text row.text before.rows
      (row_alone form front row.text row.holds);
  got = second_writes old now new before.text row.text (Ok tt) before.got row.written;
}

-- the next row is cut short
pub so_far_cut : (form : Form) (fronts left rest : List ShownRow) (front : ShownRow) (old now new : OutputState)
    (e : Error) → left ≡ front ∷ rest → AreRowsSoFar form fronts left old now
    → WritesWhat (IsRow (row_text form) front) now new (Err e) → WritesWhat (AreRows form fronts) old new (Err e)
so_far_cut form fronts left rest front old now new e next before row =
    let part = first_cut now new row.text (bare form rest) e row.written in
    record {
      text = before.text ++ (row.text ++ bare form rest);
      holds = subst (λ (all : List ShownRow). AreRows form all (before.text ++ (row.text ++ bare form rest)))
          (sym (before.split ∙ ap (λ (others : List ShownRow). before.done ++ others) next))
          (rows_joined form before.done (front ∷ rest) before.text (row.text ++ bare form rest) before.rows
          (more front rest row.text (bare form rest) row.holds (bare_rows form rest)));
      written = second_writes old now new before.text (row.text ++ bare form rest) (Err e) before.got part;
    }

-- nothing is left
pub so_far_all : (form : Form) (fronts left : List ShownRow) (old now : OutputState) → left ≡ []
    → AreRowsSoFar form fronts left old now → WritesWhat (AreRows form fronts) old now (Ok tt)
so_far_all form fronts left old now all before = record {
  text = before.text;
  holds = subst (λ (rows : List ShownRow). AreRows form rows before.text)
      (sym (before.split ∙ ap (λ (others : List ShownRow). before.done ++ others) all ∙ append-nil before.done))
      before.rows;
  written = before.got;
}

-- the first of two parts is cut short
pub rows_first : (form : Form) (fronts others : List ShownRow) (old new : OutputState) (e : Error)
    → WritesWhat (AreRows form fronts) old new (Err e) → WritesWhat (AreRows form (fronts ++ others)) old new (Err e)
rows_first form fronts others old new e first = record {
  text = first.text ++ bare form others;
  holds = rows_joined form fronts others first.text (bare form others) first.holds (bare_rows form others);
  written = first_cut old new first.text (bare form others) e first.written;
}

-- rows behind others are written
pub rows_second : (form : Form) (fronts others : List ShownRow) (old now new : OutputState)
    (result : Result (Unit {0}) Error) → WritesWhat (AreRows form fronts) old now (Ok tt)
    → WritesWhat (AreRows form others) now new result → WritesWhat (AreRows form (fronts ++ others)) old new result
rows_second form fronts others old now new result first next = record {
  text = first.text ++ next.text;
  holds = rows_joined form fronts others first.text next.text first.holds next.holds;
  written = second_writes old now new first.text next.text result first.written next.written;
}

-- the row of a line is a list of one
pub rows_of_row : (form : Form) (front : ShownRow) (old new : OutputState) (result : Result (Unit {0}) Error)
    → WritesWhat (IsRow (row_text form) front) old new result → WritesWhat (AreRows form (front ∷ [])) old new result
rows_of_row form front old new result row =
    record { text = row.text; holds = row_alone form front row.text row.holds; written = row.written }

pub rows_none : (form : Form) (old : OutputState) → WritesWhat (AreRows form []) old old (Ok tt)
rows_none form old = record { text = []; holds = none; written = gets_nothing old }

pub rows_lack : (form : Form) (fronts : List ShownRow) (old : OutputState) (e : Error) → e ≡ OutOfMemory
    → WritesWhat (AreRows form fronts) old old (Err e)
rows_lack form fronts old e want =
    record { text = bare form fronts; holds = bare_rows form fronts; written = lacks_all old (bare form fronts) e want }

-- ---- lines of some rows

-- nothing is written
pub lines_none : (form : Form) (old : OutputState) → WritesLines form old old (Ok tt)
lines_none form old = record { text = []; holds = record { fronts = []; rows = none }; written = gets_nothing old }

-- memory ran out before anything is written
pub lines_lack : (form : Form) (old : OutputState) (e : Error) → e ≡ OutOfMemory → WritesLines form old old (Err e)
lines_lack form old e want =
    record { text = []; holds = record { fronts = []; rows = none }; written = lacks_all old [] e want }

-- the line of one row
pub lines_of_row : (form : Form) (front : ShownRow) (old new : OutputState) (result : Result (Unit {0}) Error)
    → WritesWhat (IsRow (row_text form) front) old new result → WritesLines form old new result
lines_of_row form front old new result row = record {
  text = row.text;
  holds = record { fronts = front ∷ []; rows = row_alone form front row.text row.holds };
  written = row.written;
}

-- lines behind others
pub lines_more : (form : Form) (old now new : OutputState) (result : Result (Unit {0}) Error)
    → WritesLines form now new result → WritesLines form old now (Ok tt) → WritesLines form old new result
lines_more form old now new result next before = record {
  text = before.text ++ next.text;
  holds = record {
    fronts = before.holds.fronts ++ next.holds.fronts;
    rows = rows_joined form before.holds.fronts next.holds.fronts before.text next.text before.holds.rows
        next.holds.rows;
  };
  written = second_writes old now new before.text next.text result before.written next.written;
}

-- the line of a row that was added to it
pub line_of_row : (form : Form) (front : ShownRow) (start line : LineState) (old new : OutputState)
    (result : Result (Unit {0}) Error) → IsLineWritten line old new result → AddsRow front start line
    → start ≡ begun form → WritesLines form old new result
line_of_row form front start line old new result is adds first =
    lines_of_row form front old new result (row_written form front start line old new result is adds first)

-- an error is passed on
pub lines_passed : (form : Form) (old new : OutputState) (e : Error) (result : Result (Unit {0}) Error)
    → IsErr result × IsErrAnd result (λ given. given ≡ e) → WritesLines form old new (Err e)
    → WritesLines form old new result
lines_passed form old new e (Ok done) passed cut = absurd cc
lines_passed form old new e (Err given) passed cut =
    subst (λ (fault : Error). WritesLines form old new (Err fault)) (sym passed.1) cut

-- memory ran out, which is passed on
pub lines_lacking : (form : Form) (old : OutputState) (result : Result (Unit {0}) Error)
    → IsErr result × IsErrAnd result (λ e. e ≡ OutOfMemory) → WritesLines form old old result
lines_lacking form old (Ok done) lacks = absurd cc
lines_lacking form old (Err e) lacks = lines_lack form old e lacks.1

-- ---- lines that are added to a text

pub lines_none_added : (form : Form) (text : List ℕ) → HasText (AreLines form) text text
lines_none_added form text =
    record { text = []; holds = record { fronts = []; rows = none }; added = sym (append-nil text) }

pub line_added : (form : Form) (front : ShownRow) (old now new : List ℕ) → HasText (AreLines form) old now
    → HasText (IsRow (row_text form) front) now new → HasText (AreLines form) old new
line_added form front old now new before row = record {
  text = before.text ++ row.text;
  holds = record {
    fronts = before.holds.fronts ++ front ∷ [];
    rows = rows_joined form before.holds.fronts (front ∷ []) before.text row.text before.holds.rows
        (row_alone form front row.text row.holds);
  };
  added = row.added ∙ ap (λ (text : List ℕ). text ++ row.text) before.added ∙ append_assoc old before.text row.text;
}

pub ruleset listing = (lines_none, lines_lack, line_of_row, lines_passed, lines_lacking, lines_more)
