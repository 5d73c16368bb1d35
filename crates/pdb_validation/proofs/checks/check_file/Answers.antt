use Rattle.pdb_msf.proofs.lemmas.Outside.{outside, plain_head}
use Rattle.pdb_validation.proofs.checks.check_file.Goals as goal

pub returns-then-comes_from_outside : goal.returns-then-comes_from_outside
returns-then-comes_from_outside g c =
    outside _ _ _ _ c.in-Err.error _ _ plain_head c.in-Err.ensures.header
    (c.comes_from_outside.ensures.outside c.if-comes_from_outside.true)
