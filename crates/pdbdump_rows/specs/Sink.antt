-- Rows that are written one after another, until a line can't be made or written.
use Rattle.std.specs.Prelude.{◌≡◌, ℕ, List, Option, Some, None, Result, Ok, Err}
use Rattle.pdb_base.specs.declared.error.Error.{Error}
use Rattle.pdb_base.specs.declared.error.Error.TheVariants.{OutOfMemory}
use Rattle.pdb_output.specs.Output.{OutputState}
use Rattle.pdbdump_rows.specs.declared.rows.Rows.{Rows}
use Rattle.pdbdump_rows.specs.Line.{AddsFields, LineState, WritesWhat, begun}
use Rattle.pdbdump_rows.specs.Lines.{row_text}
use Rattle.pdbdump_rows.specs.Row.{ShownRow}
use Rattle.pdbdump_rows.specs.Rows.{AreLines}

-- the result of writing rows, of which one may have failed
abbrev pub ended : Option Error → Result (Unit {0}) Error
ended None = Ok tt
ended (Some fault) = Err fault

-- the first fault of rows after an allocation failed
abbrev pub lacking : Option Error → Option Error
lacking None = Some OutOfMemory
lacking (Some first) = Some first

-- Rows whose output, form and first fault are the same.
pub record AreAsBefore {W : Type 0} (old new : Rows W) : Type 0 where
  pub out : new.out ≡ old.out
  pub form : new.sheet.now.form ≡ old.sheet.now.form
  pub fault : new.sheet.now.fault ≡ old.sheet.now.fault

-- A text of which this holds was written, or cut short; nothing is written after a fault.
abbrev pub WritesOn : (List ℕ → Type 0) → Option Error → OutputState → Option Error → OutputState → Type 0
WritesOn Holds None old fault new = WritesWhat Holds old new (ended fault)
WritesOn Holds (Some first) old fault new = (fault ≡ Some first) × (new ≡ old)

-- Such a text was written to the output of rows, in their form.
pub record ContinueWith {W : Type 0} (Holds : List ℕ → Type 0) (old new : Rows W) : Type 0 where
  pub same : new.out.ghost_name ≡ old.out.ghost_name
  pub form : new.sheet.now.form ≡ old.sheet.now.form
  pub text : WritesOn Holds old.sheet.now.fault old.out.now new.sheet.now.fault new.out.now

-- Rows were written, each as a line.
unfoldable pub AddsLines : {W : Type 0} → Rows W → Rows W → Type 0
AddsLines old new = ContinueWith (AreLines old.sheet.now.form) old new

-- One row with these fields was written.
unfoldable pub AddsLine : {W : Type 0} → ShownRow → Rows W → Rows W → Type 0
AddsLine row old new = ContinueWith (λ text. text ≡ row_text old.sheet.now.form row) old new

-- The row whose fields were added to the line was written.
pub record IsRowEnded {W : Type 0} (old new : Rows W) : Type 0 where
  pub row : (start : LineState) (row : ShownRow) → AddsFields row start old.sheet.now.line
      → start ≡ begun old.sheet.now.form → AddsLine row old new
