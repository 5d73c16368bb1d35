-- A line that is written field by field is the one line of its fields.
use Rattle.std.proofs.Common.{◌≡◌, ℕ, Bool, true, false, List, [], ◌∷◌, ◌++◌, codes, refl, ap, sym, subst, Result, ◌∙◌}
use Rattle.std.proofs.Common.{Ok, Err, ⊎_elim, append_assoc, IsTrue, true≢false, ◌+◌, ◌<◌, length, take, map}
use Rattle.std.proofs.Common.{get_or, Bor}
use Rattle.std.specs.Result.{IsErr, IsErrAnd}
use Rattle.std.specs.declared.alloc.AllocError.{AllocError}
use Rattle.std.specs.List.{filter, flat_map}
use Rattle.std.proofs.lemmas.Bool.{cond-true, cond-false, cases_Bool}
use Rattle.std.proofs.lemmas.List.{append-nil, map-append, take_more}
use Rattle.pdb_base.specs.declared.error.Error.{Error}
use Rattle.pdb_base.specs.declared.error.Error.TheVariants.{OutOfMemory}
use Rattle.pdb_output.proofs.lemmas.Written.{lacks_all}
use Rattle.pdb_output.specs.Output.{OutputState, Writes}
use Rattle.pdbdump_rows.specs.declared.form.Form.{Form}
use Rattle.pdbdump_rows.specs.declared.form.Form.TheVariants.{Text, Json}
use Rattle.pdbdump_rows.specs.Line.{AddsText, EndsLine, EndsRow, IsLineAppended, IsLineEnded, IsLineWritten}
use Rattle.pdbdump_rows.specs.Line.{AddsFields, AddsRow, IsRow, LineState, WritesWhat}
use Rattle.pdbdump_rows.specs.Line.{all_shown, begun, begun_full, line_bytes, ending, line_opening, add_field}
use Rattle.pdbdump_rows.specs.Lines.{field_line, field_text, fields_text, full_text, is_shown, row_text, separate}
use Rattle.pdbdump_rows.specs.Lines.{separator}
use Rattle.pdbdump_rows.specs.Row.{ShownField, ShownRow, field_shown}
use Rattle.pdbdump_rows.specs.declared.value.Value.{Value}

-- a line that shows a field
abbrev after : Form → List ℕ → LineState
after form bytes = record { form = form; is_full = false; bytes = bytes; is_empty = false; is_whole = true }

-- a line of text with a line for each field
abbrev full : List ℕ → Bool → LineState
full bytes empty = record { form = Text; is_full = true; bytes = bytes; is_empty = empty; is_whole = true }

-- the fields behind the first, each behind a separator
abbrev rest_text : Form → ShownRow → List ℕ
rest_text form row = flat_map (λ next. separator form ++ field_text form next) (filter (is_shown form) row)

shows_after : (form : Form) (bytes : List ℕ) (field : ShownField) → is_shown form field ≡ true
    → add_field (after form bytes) field ≡ after form (bytes ++ (separator form ++ field_text form field))
unfolding add_field
shows_after form bytes field holds = cond-true (is_shown form field) _ _ holds

shows_first : (form : Form) (field : ShownField) → is_shown form field ≡ true
    → add_field (begun form) field ≡ after form (line_opening form ++ field_text form field)
unfolding add_field
shows_first form field holds = cond-true (is_shown form field) _ _ holds

shows_full : (bytes : List ℕ) (empty : Bool) (field : ShownField) → is_shown Text field ≡ true
    → add_field (full bytes empty) field ≡ full (bytes ++ field_line field) false
unfolding add_field
shows_full bytes empty field holds = cond-true (is_shown Text field) _ _ holds

shows_not : (line : LineState) (field : ShownField) → is_shown line.form field ≡ false → add_field line field ≡ line
unfolding add_field
shows_not line field fails = cond-false (is_shown line.form field) _ _ fails

kept : (form : Form) (field : ShownField) (row : ShownRow) → is_shown form field ≡ true
    → filter (is_shown form) (field ∷ row) ≡ field ∷ filter (is_shown form) row
kept form field row holds = cond-true (is_shown form field) _ _ holds

dropped : (form : Form) (field : ShownField) (row : ShownRow) → is_shown form field ≡ false
    → filter (is_shown form) (field ∷ row) ≡ filter (is_shown form) row
dropped form field row fails = cond-false (is_shown form field) _ _ fails

all_after : (form : Form) (bytes : List ℕ) (row : ShownRow)
    → all_shown (after form bytes) row ≡ after form (bytes ++ rest_text form row)
all_after form bytes [] = ap (after form) (sym (append-nil bytes))
all_after form bytes (field ∷ row) =
    let each = λ (next : ShownField). separator form ++ field_text form next in
    ⊎_elim
    (λ (holds : is_shown form field ≡ true).
    ap (λ (line : LineState). all_shown line row) (shows_after form bytes field holds)
    ∙ all_after form (bytes ++ each field) row
    ∙ ap (after form) (append_assoc bytes (each field) (rest_text form row)
    ∙ ap (λ (shown : ShownRow). bytes ++ flat_map each shown) (sym (kept form field row holds))))
    (λ (fails : is_shown form field ≡ false).
    ap (λ (line : LineState). all_shown line row) (shows_not (after form bytes) field fails)
    ∙ all_after form bytes row
    ∙ ap (λ (shown : ShownRow). after form (bytes ++ flat_map each shown)) (sym (dropped form field row fails)))
    (cases_Bool (is_shown form field))

-- what a line comes to
ended_after : (form : Form) (bytes : List ℕ) → line_bytes (after form bytes) ≡ bytes ++ ending form
unfolding line_bytes
ended_after form bytes = refl

ended_begun : (form : Form) → line_bytes (begun form) ≡ line_opening form ++ ending form
unfolding line_bytes
ended_begun form = refl

ended_full : (bytes : List ℕ) (empty : Bool) → line_bytes (full bytes empty) ≡ bytes
unfolding line_bytes
ended_full bytes empty = append-nil bytes

-- the fields between what stands before and behind them
whole : Form → List ShownField → List ℕ
whole form row = line_opening form ++ separate (separator form) (field_text form) row ++ ending form

all_begun : (form : Form) (row : ShownRow)
    → line_bytes (all_shown (begun form) row) ≡ whole form (filter (is_shown form) row)
unfolding whole
all_begun form [] =
    ended_begun form ∙ ap (λ (front : List ℕ). front ++ ending form) (sym (append-nil (line_opening form)))
all_begun form (field ∷ row) = ⊎_elim
    (λ (holds : is_shown form field ≡ true).
    ap (λ (line : LineState). line_bytes (all_shown line row)) (shows_first form field holds)
    ∙ ap line_bytes (all_after form (line_opening form ++ field_text form field) row)
    ∙ ended_after form ((line_opening form ++ field_text form field) ++ rest_text form row)
    ∙ ap (λ (front : List ℕ). front ++ ending form)
    (append_assoc (line_opening form) (field_text form field) (rest_text form row))
    ∙ ap (whole form) (sym (kept form field row holds)))
    (λ (fails : is_shown form field ≡ false).
    ap (λ (line : LineState). line_bytes (all_shown line row)) (shows_not (begun form) field fails)
    ∙ all_begun form row
    ∙ ap (whole form) (sym (dropped form field row fails)))
    (cases_Bool (is_shown form field))

whole_is : (form : Form) (row : ShownRow) → whole form (filter (is_shown form) row) ≡ row_text form row
unfolding whole row_text fields_text
whole_is Text row = refl
whole_is Json row = sym (append_assoc (codes "{" ++ fields_text Json row) (codes "}") (10 ∷ []))

pub line_is : (form : Form) (row : ShownRow) → line_bytes (all_shown (begun form) row) ≡ row_text form row
line_is form row = all_begun form row ∙ whole_is form row

all_full : (bytes : List ℕ) (empty : Bool) (row : ShownRow)
    → line_bytes (all_shown (full bytes empty) row) ≡ bytes ++ flat_map field_line (filter (is_shown Text) row)
all_full bytes empty [] = ended_full bytes empty ∙ sym (append-nil bytes)
all_full bytes empty (field ∷ row) = ⊎_elim
    (λ (holds : is_shown Text field ≡ true).
    ap (λ (line : LineState). line_bytes (all_shown line row)) (shows_full bytes empty field holds)
    ∙ all_full (bytes ++ field_line field) false row
    ∙ append_assoc bytes (field_line field) (flat_map field_line (filter (is_shown Text) row))
    ∙ ap (λ (shown : ShownRow). bytes ++ flat_map field_line shown) (sym (kept Text field row holds)))
    (λ (fails : is_shown Text field ≡ false).
    ap (λ (line : LineState). line_bytes (all_shown line row)) (shows_not (full bytes empty) field fails)
    ∙ all_full bytes empty row
    ∙ ap (λ (shown : ShownRow). bytes ++ flat_map field_line shown) (sym (dropped Text field row fails)))
    (cases_Bool (is_shown Text field))

pub full_is : (form : Form) (row : ShownRow) → line_bytes (all_shown (begun_full form) row) ≡ full_text form row
unfolding full_text
full_is Text row = all_full [] true row
full_is Json row = line_is Json row

-- ---- rows that are added field by field

all_joined : (line : LineState) (row more : ShownRow)
    → all_shown line (row ++ more) ≡ all_shown (all_shown line row) more
all_joined line [] more = refl
all_joined line (field ∷ row) more = all_joined (add_field line field) row more

add_whole : (line : LineState) (field : ShownField) → (add_field line field).is_whole ≡ line.is_whole
unfolding add_field
add_whole line field = ⊎_elim
    (λ (holds : is_shown line.form field ≡ true).
    ap (λ (next : LineState). next.is_whole) (cond-true (is_shown line.form field) _ _ holds))
    (λ (fails : is_shown line.form field ≡ false).
    ap (λ (next : LineState). next.is_whole) (cond-false (is_shown line.form field) _ _ fails))
    (cases_Bool (is_shown line.form field))

all_whole : (line : LineState) (row : ShownRow) → (all_shown line row).is_whole ≡ line.is_whole
all_whole line [] = refl
all_whole line (field ∷ row) = all_whole (add_field line field) row ∙ add_whole line field

-- a line to which fields were added without want of memory was whole before
was_whole : (line : LineState) (row : ShownRow) (new : LineState) → new ≡ all_shown line row → IsTrue new.is_whole
    → IsTrue line.is_whole
was_whole line row new is whole =
    subst IsTrue (ap (λ (next : LineState). next.is_whole) is ∙ all_whole line row) whole

-- no field yet
pub no_fields : (line : LineState) → AddsRow [] line line
unfolding AddsRow
no_fields line whole = record { rest = []; shown = refl }

-- the first field alone
pub first_field : (field : ShownField) (old now : LineState) → AddsFields (field ∷ []) old now
    → AddsRow (field ∷ []) old now
unfolding AddsFields AddsRow
first_field field old now is whole = record { rest = []; shown = is whole }

-- some fields alone
pub fields_alone : (row : ShownRow) (old now : LineState) → AddsFields row old now → AddsRow [] old now
unfolding AddsFields AddsRow
fields_alone row old now is whole = record { rest = row; shown = is whole }

-- fields behind others
fields_joined : (row more : ShownRow) (old now new : LineState) → AddsFields row old now → AddsFields more now new
    → AddsFields (row ++ more) old new
unfolding AddsFields
fields_joined row more old now new before next whole =
    next whole
    ∙ ap (λ (line : LineState). all_shown line more) (before (was_whole now more new (next whole) whole))
    ∙ sym (all_joined old row more)

-- none yet of a list
pub no_field : (line : LineState) → AddsFields [] line line
unfolding AddsFields
no_field line whole = refl

-- one field more of a list
pub field_more : (fields : List (Bor (List ℕ) × Value)) (i : ℕ) (d : Bor (List ℕ) × Value) (old now new : LineState)
    → i < length fields → AddsFields (map field_shown (take i fields)) old now
    → AddsFields (field_shown (get_or fields i d) ∷ []) now new
    → AddsFields (map field_shown (take (i + 1) fields)) old new
field_more fields i d old now new within before next =
    subst (λ (row : ShownRow). AddsFields row old new)
    (sym (ap (map field_shown) (take_more fields i d within)
    ∙ map-append field_shown (take i fields) (get_or fields i d ∷ [])))
    (fields_joined (map field_shown (take i fields)) (field_shown (get_or fields i d) ∷ []) old now new before next)

-- more fields
pub fields_more : (front : ShownRow) (old now new : LineState) → AddsRow [] now new → AddsRow front old now
    → AddsRow front old new
unfolding AddsRow
fields_more front old now new more before whole =
    let next = more whole in
    let first = before (was_whole now next.rest new next.shown whole) in
    record {
      rest = first.rest ++ next.rest;
      shown = next.shown ∙ ap (λ (line : LineState). all_shown line next.rest) first.shown
          ∙ sym (all_joined (all_shown old front) first.rest next.rest);
    }

-- fields, of which the first ones may be known
pub fields_at_all : (front : ShownRow) (old new : LineState) → AddsRow front old new → AddsRow [] old new
unfolding AddsRow
fields_at_all front old new adds whole =
    let row = adds whole in
    record { rest = front ++ row.rest; shown = row.shown ∙ sym (all_joined old front row.rest) }

-- an allocation failed
pub fields_lack : (front : ShownRow) (old new : LineState) → new.is_whole ≡ false → AddsRow front old new
unfolding AddsRow
fields_lack front old new lacks whole = absurd (true≢false (sym whole ∙ lacks))

pub ruleset adding = (no_fields, first_field, fields_more, fields_lack)

-- ---- a line that has ended

-- a line ends as the row of the fields that were added to it
pub ends_row : (old new : LineState) (result : Result (Unit {0}) AllocError) → IsTrue old.is_whole
    → EndsLine (line_bytes old) new result → IsLineEnded old new result
unfolding AddsFields
ends_row old new (Ok done) whole ends = record {
  row = λ form start row adds first. ends
      ∙ ap line_bytes (adds whole ∙ ap (λ (line : LineState). all_shown line row) first) ∙ line_is form row;
  full = λ form start row adds first. ends
      ∙ ap line_bytes (adds whole ∙ ap (λ (line : LineState). all_shown line row) first) ∙ full_is form row;
}
ends_row old new (Err e) whole ends =
    record { row = λ form start row adds first. tt; full = λ form start row adds first. tt }

-- the fields of a row, of which the first ones are known
pub row_of : (front : ShownRow) (start line : LineState) → AddsRow front start line
    → (rest : ShownRow) × AddsFields (front ++ rest) start line
unfolding AddsFields AddsRow
row_of front start line adds = ⊎_elim
    (λ (holds : line.is_whole ≡ true).
    ((adds holds).rest, λ whole. (adds holds).shown ∙ sym (all_joined start front (adds holds).rest)))
    (λ (fails : line.is_whole ≡ false). ([], λ whole. absurd (true≢false (sym whole ∙ fails))))
    (cases_Bool line.is_whole)

-- ---- what a function that ends a line is proved of

ends_as : (show : ShownRow → List ℕ) (front : ShownRow) (start old new : LineState)
    (result : Result (Unit {0}) AllocError)
    → ((row : ShownRow) → AddsFields row start old → EndsLine (show row) new result) → AddsRow front start old
    → EndsRow show front new result
ends_as show front start old new (Ok done) ends adds =
    let row = row_of front start old adds in
    record { rest = row.0; shown = ends (front ++ row.0) row.1 }
ends_as show front start old new (Err e) ends adds = tt

pub row_ended : (form : Form) (front : ShownRow) (start old new : LineState) (result : Result (Unit {0}) AllocError)
    → IsLineEnded old new result → AddsRow front start old → start ≡ begun form
    → EndsRow (row_text form) front new result
row_ended form front start old new result is adds first =
    ends_as (row_text form) front start old new result (λ row fields. is.row form start row fields first) adds

pub full_ended : (form : Form) (front : ShownRow) (start old new : LineState) (result : Result (Unit {0}) AllocError)
    → IsLineEnded old new result → AddsRow front start old → start ≡ begun_full form
    → EndsRow (full_text form) front new result
full_ended form front start old new result is adds first =
    ends_as (full_text form) front start old new result (λ row fields. is.full form start row fields first) adds

pub row_written : (form : Form) (front : ShownRow) (start line : LineState) (old new : OutputState)
    (result : Result (Unit {0}) Error) → IsLineWritten line old new result → AddsRow front start line
    → start ≡ begun form → WritesWhat (IsRow (row_text form) front) old new result
row_written form front start line old new result is adds first =
    let row = row_of front start line adds in
    record {
      text = row_text form (front ++ row.0);
      holds = record { rest = row.0; shown = refl };
      written = is.row form start (front ++ row.0) row.1 first;
    }

-- a text that is a row is one that begins with the first fields of it
as_row : (show : ShownRow → List ℕ) (front rest : ShownRow) (old new : List ℕ) (result : Result (Unit {0}) Error)
    → AddsText (λ text. text ≡ show (front ++ rest)) old new result → AddsText (IsRow show front) old new result
as_row show front rest old new (Ok done) has =
    record { text = has.text; holds = record { rest = rest; shown = has.holds }; added = has.added }
as_row show front rest old new (Err e) lacks = lacks

pub row_appended : (form : Form) (front : ShownRow) (start line : LineState) (old new : List ℕ)
    (result : Result (Unit {0}) Error) → IsLineAppended line old new result → AddsRow front start line
    → start ≡ begun form → AddsText (IsRow (row_text form) front) old new result
row_appended form front start line old new result is adds first =
    let row = row_of front start line adds in
    as_row (row_text form) front row.0 old new result (is.row form start (front ++ row.0) row.1 first)

-- the line that is made of a row is written
pub made_written : (show : ShownRow → List ℕ) (front : ShownRow) (made bytes : List ℕ) (old new : OutputState)
    (result : Result (Unit {0}) Error) → IsRow show front made → bytes ≡ made → Writes bytes old new result
    → WritesWhat (IsRow show front) old new result
made_written show front made bytes old new result row is writes =
    record { text = bytes; holds = subst (IsRow show front) (sym is) row; written = writes }

-- memory ran out before a row was written
pub row_lacks : (show : ShownRow → List ℕ) (front : ShownRow) (old : OutputState) (e : Error) → e ≡ OutOfMemory
    → WritesWhat (IsRow show front) old old (Err e)
row_lacks show front old e want = record {
  text = show (front ++ []);
  holds = record { rest = []; shown = refl };
  written = lacks_all old (show (front ++ [])) e want;
}

-- the line that was made is written
pub line_written : (line made : LineState) (bytes : List ℕ) (old new : OutputState) (result : Result (Unit {0}) Error)
    → IsLineEnded line made (Ok tt) → bytes ≡ made.bytes → Writes bytes old new result
    → IsLineWritten line old new result
line_written line made bytes old new result ends is writes = record {
  row = λ form start row adds first. subst (λ (text : List ℕ). Writes text old new result)
      (is ∙ ends.row form start row adds first) writes;
}

-- memory ran out before the line was written
pub line_lacks : (line : LineState) (old : OutputState) (result : Result (Unit {0}) Error)
    → IsErr result × IsErrAnd result (λ e. e ≡ OutOfMemory) → IsLineWritten line old old result
line_lacks line old (Ok done) lacks = absurd cc
line_lacks line old (Err e) lacks =
    record { row = λ form start row adds first. lacks_all old (row_text form row) e lacks.1 }

pub ruleset showing = (row_ended, full_ended, row_written, row_appended)
