use Rattle.std.proofs.Common.{◌≡◌, ◌++◌, drop}
use Rattle.pdb_types.specs.Agreement.{zip_pairs}
use Rattle.pdb_types.proofs.agreement.push_pairs.Given as goal

abbrev pub invariant-loop-place : goal.invariant-loop-place
invariant-loop-place l = l.initial.pairs.items ++ zip_pairs l.firsts l.seconds
    ≡ l.pairs.items ++ zip_pairs (drop l.place l.firsts) (drop l.place l.seconds)
