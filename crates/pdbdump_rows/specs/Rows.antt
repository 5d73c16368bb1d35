-- Several rows, each a line.
use Rattle.std.specs.Prelude.{◌≡◌, ℕ, zero, suc, ◌+◌, List, [], ◌∷◌, ◌++◌, Result}
use Rattle.pdb_base.specs.declared.error.Error.{Error}
use Rattle.pdb_output.specs.Output.{OutputState, Gets}
use Rattle.pdbdump_rows.specs.declared.form.Form.{Form}
use Rattle.pdbdump_rows.specs.Line.{IsRow, WritesWhat}
use Rattle.pdbdump_rows.specs.Lines.{row_text}
use Rattle.pdbdump_rows.specs.Row.{ShownRow}

-- The lines of rows, in order, of which each begins with the fields that are given for it.
pub data AreRows (form : Form) : List ShownRow → List ℕ → Type 0 where
  none : AreRows form [] []
  more : (front : ShownRow) (fronts : List ShownRow) (line lines : List ℕ) → IsRow (row_text form) front line
      → AreRows form fronts lines → AreRows form (front ∷ fronts) (line ++ lines)

-- what the rows of so many numbers begin with, from the first number on
abbrev pub rows_from : (ℕ → ShownRow) → ℕ → ℕ → List ShownRow
rows_from front n zero = []
rows_from front n (suc count) = front n ∷ rows_from front (n + 1) count

-- Some lines of rows.
pub record AreLines (form : Form) (text : List ℕ) : Type 0 where
  pub fronts : List ShownRow
  pub rows : AreRows form fronts text

-- Some lines of rows were written, or cut short.
abbrev pub WritesLines : Form → OutputState → OutputState → Result (Unit {0}) Error → Type 0
WritesLines form old new result = WritesWhat (AreLines form) old new result

-- An output received the lines of the first of these rows, and `left` is left of them.
pub record AreRowsSoFar (form : Form) (fronts left : List ShownRow) (old now : OutputState) : Type 0 where
  pub done : List ShownRow
  pub text : List ℕ
  pub split : fronts ≡ done ++ left
  pub rows : AreRows form done text
  pub got : Gets old now text
