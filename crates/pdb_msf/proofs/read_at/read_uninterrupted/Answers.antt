use Rattle.std.proofs.Common.{◌∙◌}
use Rattle.pdb_msf.proofs.ReadLemmas.{same_read}
use Rattle.pdb_msf.proofs.read_at.read_uninterrupted.Goals as goal

pub returns-in-Ok-clause-read : goal.returns-in-Ok-clause-read
returns-in-Ok-clause-read g c =
    same_read _ _ _ _ _ _ _ c.loop.invariant.kept c.loop.invariant.len c.in-Ok.ensures.read

pub returns-in-Ok-clause-kept : goal.returns-in-Ok-clause-kept
returns-in-Ok-clause-kept g c = c.in-Ok.ensures.kept ∙ c.loop.invariant.kept
