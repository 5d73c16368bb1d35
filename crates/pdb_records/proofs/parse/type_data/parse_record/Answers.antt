use Rattle.pdb_base.specs.Place.{left}
use Rattle.pdb_base.specs.Reading.{number_at}
use Rattle.pdb_records.proofs.NoWant.{number_no_want}
use Rattle.pdb_records.proofs.MemoryLemmas.{passes_no_want, needs_fields, needs_behind}
use Rattle.pdb_records.proofs.parse.type_data.parse_record.Goals as goal

pub returns-in_err-number-clause-memory : goal.returns-in_err-number-clause-memory
returns-in_err-number-clause-memory c =
    passes_no_want (number_at 2 (left c.args.buffer.now)) _ _ _
    (number_no_want 2 (left c.args.buffer.now)) c.in_err-number.ensures.read c.from_residual.ensures.1

pub returns-then-number-eq-LF_FIELDLIST-clause-memory : goal.returns-then-number-eq-LF_FIELDLIST-clause-memory
returns-then-number-eq-LF_FIELDLIST-clause-memory c = λ want.
    needs_fields (left c.args.buffer.now) _ _ c.in_ok-number.ensures.read c.if-number-eq-LF_FIELDLIST.true
    (c.parse_field_list.ensures.memory want)

pub returns-else-number-eq-LF_FIELDLIST-clause-memory : goal.returns-else-number-eq-LF_FIELDLIST-clause-memory
returns-else-number-eq-LF_FIELDLIST-clause-memory c = λ want.
    needs_behind (left c.args.buffer.now) _ _ c.in_ok-number.ensures.read c.if-number-eq-LF_FIELDLIST.false
    (c.parse_behind_leaf.ensures.memory want)
