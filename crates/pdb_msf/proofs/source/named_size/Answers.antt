use Rattle.std.proofs.Common.{sym}
use Rattle.pdb_msf.proofs.PositionLemmas.{size_known}
use Rattle.pdb_msf.proofs.source.named_size.Goals as goal

pub returns-in-Some-clause-size : goal.returns-in-Some-clause-size
returns-in-Some-clause-size c = size_known _ _ (sym c.in-Some.ensures)
