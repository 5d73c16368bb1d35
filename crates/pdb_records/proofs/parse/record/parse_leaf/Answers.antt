use Rattle.pdb_base.specs.Place.{left}
use Rattle.pdb_records.specs.Shape.{as_type}
use Rattle.pdb_records.specs.declared.parse.counted.CountWidth.TheVariants.{Bits32}
use Rattle.pdb_records.specs.Counted.{counted_at}
use Rattle.pdb_records.specs.Leaves.{row_of}
use Rattle.pdb_records.specs.Lists.{arguments_row}
use Rattle.pdb_records.specs.Records.{plain_at}
use Rattle.pdb_records.proofs.CountedLemmas.{types_agree, indexes_there}
use Rattle.pdb_records.proofs.MemoryLemmas.{gives_no_want, wants_on, plain_no_want}
use Rattle.pdb_records.proofs.parse.record.parse_leaf.Goals as goal

pub returns-in_err-arguments-in-ArgumentList-clause-memory :
    goal.returns-in_err-arguments-in-ArgumentList-clause-memory
returns-in_err-arguments-in-ArgumentList-clause-memory c = λ want.
    rw c.in-ArgumentList.is
    (indexes_there (counted_at Bits32 as_type) arguments_row (types_agree Bits32) (left c.args.buffer.now)
    (wants_on _ _ _ c.in_err-arguments-in-ArgumentList.ensures.memory c.from_residual.ensures.1 want))

pub returns-in-Plain-clause-memory : goal.returns-in-Plain-clause-memory
returns-in-Plain-clause-memory c =
    gives_no_want _ c.parse_plain.result (plain_at (row_of c.args.number c.in-Plain.leaf) (left c.args.buffer.now)) _
    (plain_no_want (row_of c.args.number c.in-Plain.leaf) (left c.args.buffer.now)) c.parse_plain.ensures
