use Rattle.pdb_msf.specs.Header.{header_view}
use Rattle.pdb_msf.proofs.lemmas.Outside.{outside, plain_behind}
use Rattle.pdb_validation.proofs.checks.check_directory.Goals as goal

pub returns-then-comes_from_outside : goal.returns-then-comes_from_outside
returns-then-comes_from_outside g c =
    outside _ _ _ _ c.in-Err.error _ _ (λ file. plain_behind file (header_view c.args.header)) c.in-Err.ensures
    (c.comes_from_outside.ensures.outside c.if-comes_from_outside.true)
