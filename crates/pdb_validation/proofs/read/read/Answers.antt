use Rattle.std.proofs.Common.{None}
use Rattle.pdb_msf.proofs.lemmas.Outside.{outside, plain_stream}
use Rattle.pdb_validation.proofs.read.read.Goals as goal

pub returns-then-comes_from_outside : goal.returns-then-comes_from_outside
returns-then-comes_from_outside g c =
    outside _ _ _ _ c.in-Err.error _ _ (λ file. plain_stream c.args.scope.now.layout.now file c.args.number None)
    c.in-Err.ensures.stream (c.comes_from_outside.ensures.outside c.if-comes_from_outside.true)
