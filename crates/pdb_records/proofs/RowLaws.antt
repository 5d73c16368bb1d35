-- Rows are read as they assign.
use Rattle.pdb_base.specs.Spelling.{Begins}
use Rattle.pdb_records.specs.Agreement.{Agrees}
use Rattle.pdb_records.specs.Shape.{Spells, read_shape}
use Rattle.pdb_records.specs.Fault.{Refuses}
use Rattle.pdb_records.specs.Row.{Row, gives, field, Assigns, Stops, read_row, row}
use Rattle.pdb_records.proofs.Agreeing.{given, chained}
use Rattle.pdb_records.proofs.ShapeLaws.{shapes}

pub reads : {A : Type 0} (r : Row A) → Agrees (read_row r) (Assigns r) (Stops r)
reads (gives a) = given a
reads (field shape next) =
    chained (read_shape shape) (Begins (Spells shape)) (Refuses shape) (λ v. read_row (next v)) (λ v. Assigns (next v))
    (λ v. Stops (next v)) (shapes shape) (λ v. reads (next v))

pub rows : {A : Type 0} (r : Row A) → Agrees (row r) (Assigns r) (Stops r)
unfolding row
rows r = reads r
