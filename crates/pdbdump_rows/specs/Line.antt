-- A line as it is written, field by field.
use Rattle.std.specs.Prelude.{◌≡◌, ⊤, ℕ, IsTrue, if◌then◌else◌, Bool, true, false, List, [], ◌∷◌, ◌++◌, codes}
use Rattle.std.specs.Prelude.{Result, Ok, Err}
use Rattle.std.specs.declared.alloc.AllocError.{AllocError}
use Rattle.pdb_base.specs.declared.error.Error.{Error}
use Rattle.pdb_base.specs.declared.error.Error.TheVariants.{OutOfMemory}
use Rattle.pdb_output.specs.Output.{OutputState, Writes}
use Rattle.pdbdump_rows.specs.declared.form.Form.{Form}
use Rattle.pdbdump_rows.specs.declared.form.Form.TheVariants.{Text, Json}
use Rattle.pdbdump_rows.specs.Lines.{field_line, field_text, full_text, is_shown, line_feed, row_text, separator}
use Rattle.pdbdump_rows.specs.Row.{ShownField, ShownRow, hexadecimal, number}

-- A line so far: its form, whether each field has a line of its own, the bytes, whether it shows no field yet, and
-- whether each allocation since it began succeeded.
pub record LineState : Type 0 where
  pub form : Form
  pub is_full : Bool
  pub bytes : List ℕ
  pub is_empty : Bool
  pub is_whole : Bool

-- a line before its first field
abbrev pub begun : Form → LineState
begun form = record { form = form; is_full = false; bytes = []; is_empty = true; is_whole = true }

-- the same, where text has a line for each field
abbrev pub begun_full : Form → LineState
begun_full Text = record { form = Text; is_full = true; bytes = []; is_empty = true; is_whole = true }
begun_full Json = begun Json

-- what stands before the first field, and behind the last
abbrev pub line_opening : Form → List ℕ
line_opening Text = []
line_opening Json = codes "{"

abbrev pub ending : Form → List ℕ
ending Text = line_feed ∷ []
ending Json = codes "}" ++ line_feed ∷ []

-- what stands between the bytes of a line and its next field
abbrev pub between : LineState → List ℕ
between line = if line.is_empty then line_opening line.form else separator line.form

-- what a field adds that its form shows
abbrev pub field_bytes : LineState → ShownField → List ℕ
field_bytes line field = if line.is_full then field_line field else between line ++ field_text line.form field

-- a line with one field more; a field that its form does not show changes nothing
unfoldable pub add_field : LineState → ShownField → LineState
add_field line field = if is_shown line.form field
    then record {
      form = line.form;
      is_full = line.is_full;
      bytes = line.bytes
          ++ field_bytes line field;
      is_empty = false;
      is_whole = line.is_whole;
    }
    else line

-- a line with more fields, one after another
abbrev pub all_shown : LineState → ShownRow → LineState
all_shown line [] = line
all_shown line (field ∷ row) = all_shown (add_field line field) row

-- what the end of a line adds
abbrev pub end_bytes : LineState → List ℕ
end_bytes line = if line.is_full then [] else (if line.is_empty then line_opening line.form else []) ++ ending line.form

-- the bytes of a line that has ended
unfoldable pub line_bytes : LineState → List ℕ
line_bytes line = line.bytes ++ end_bytes line

-- A field was added to a line; or memory ran out.
abbrev pub PutsField : ShownField → LineState → LineState → Result (Unit {0}) AllocError → Type 0
PutsField field old new (Ok done) = new ≡ add_field old field
PutsField field old new (Err e) = ⊤

-- Fields were added to a line, unless memory ran out.
unfoldable pub AddsFields : ShownRow → LineState → LineState → Type 0
AddsFields row old new = IsTrue new.is_whole → new ≡ all_shown old row

-- A field with what was made for it was added to a line, unless memory ran out.
abbrev pub AddsMade : {A : Type 0} → (A → ShownField) → Result A AllocError → LineState → LineState → Type 0
AddsMade field (Ok made) old new = AddsFields (field made ∷ []) old new
AddsMade field (Err e) old new = new.is_whole ≡ false

-- the field that a row of an index begins with, and that of a number
abbrev pub indexed : ℕ → ShownRow
indexed index = (codes "index", hexadecimal index) ∷ []

abbrev pub numbered : ℕ → ShownRow
numbered n = (codes "number", number n) ∷ []

-- the field that an OMAP record begins with
abbrev pub moved_from : ℕ → ShownRow
moved_from address = (codes "source_address", hexadecimal address) ∷ []

-- A row that begins with these fields was added to a line.
pub record HasRow (front : ShownRow) (old new : LineState) : Type 0 where
  pub rest : ShownRow
  pub shown : new ≡ all_shown (all_shown old front) rest

-- The same, unless memory ran out.
unfoldable pub AddsRow : ShownRow → LineState → LineState → Type 0
AddsRow front old new = IsTrue new.is_whole → HasRow front old new

-- A line has ended with this text; or memory ran out.
abbrev pub EndsLine : List ℕ → LineState → Result (Unit {0}) AllocError → Type 0
EndsLine text new (Ok done) = new.bytes ≡ text
EndsLine text new (Err e) = ⊤

-- A text is a row that begins with these fields, in the way in which rows are shown.
pub record IsRow (show : ShownRow → List ℕ) (front : ShownRow) (text : List ℕ) : Type 0 where
  pub rest : ShownRow
  pub shown : text ≡ show (front ++ rest)

-- A line has ended as such a row; or memory ran out.
abbrev pub EndsRow : (ShownRow → List ℕ) → ShownRow → LineState → Result (Unit {0}) AllocError → Type 0
EndsRow show front new (Ok done) = IsRow show front new.bytes
EndsRow show front new (Err e) = ⊤

-- A text of which this holds was written, or cut short.
pub record WritesWhat (Holds : List ℕ → Type 0) (old new : OutputState) (result : Result (Unit {0}) Error)
    : Type 0 where
  pub text : List ℕ
  pub holds : Holds text
  pub written : Writes text old new result

-- A text of which this holds was added to others.
pub record HasText (Holds : List ℕ → Type 0) (old new : List ℕ) : Type 0 where
  pub text : List ℕ
  pub holds : Holds text
  pub added : new ≡ old ++ text

-- The same; or memory ran out.
abbrev pub AddsText : (List ℕ → Type 0) → List ℕ → List ℕ → Result (Unit {0}) Error → Type 0
AddsText Holds old new (Ok done) = HasText Holds old new
AddsText Holds old new (Err e) = e ≡ OutOfMemory

-- The row that was added to a line has ended, as one line or in full; or memory ran out.
pub record IsLineEnded (old new : LineState) (result : Result (Unit {0}) AllocError) : Type 0 where
  pub row : (form : Form) (start : LineState) (row : ShownRow) → AddsFields row start old → start ≡ begun form
      → EndsLine (row_text form row) new result
  pub full : (form : Form) (start : LineState) (row : ShownRow) → AddsFields row start old → start ≡ begun_full form
      → EndsLine (full_text form row) new result

-- The line of the row that was added to it was written; or it was cut short.
pub record IsLineWritten (line : LineState) (old new : OutputState) (result : Result (Unit {0}) Error) : Type 0 where
  pub row : (form : Form) (start : LineState) (row : ShownRow) → AddsFields row start line → start ≡ begun form
      → Writes (row_text form row) old new result

-- The line of the row that was added to it was appended to a text; or memory ran out.
pub record IsLineAppended (line : LineState) (old new : List ℕ) (result : Result (Unit {0}) Error) : Type 0 where
  pub row : (form : Form) (start : LineState) (row : ShownRow) → AddsFields row start line → start ≡ begun form
      → AddsText (λ text. text ≡ row_text form row) old new result
