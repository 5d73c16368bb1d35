use Rattle.pdb_base.specs.Place.{left}
use Rattle.pdb_records.specs.Padding.{padding_at}
use Rattle.pdb_records.proofs.NoWant.{padding_no_want}
use Rattle.pdb_records.proofs.MemoryLemmas.{passes_no_want}
use Rattle.pdb_records.proofs.parse.array.parse_last_dimensions.Goals as goal

pub returns-in_err-skip_padding-clause-memory : goal.returns-in_err-skip_padding-clause-memory
returns-in_err-skip_padding-clause-memory c =
    passes_no_want (padding_at (left c.parse_dimensions.new.buffer)) _ _ _
    (padding_no_want (left c.parse_dimensions.new.buffer)) c.in_err-skip_padding.ensures
    c.from_residual-in_err-skip_padding.ensures.1
