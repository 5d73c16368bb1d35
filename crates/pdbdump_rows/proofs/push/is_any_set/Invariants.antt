-- No flag so far is set.
use Rattle.std.proofs.Common.{◌≡◌, [], map, take}
use Rattle.pdbdump_rows.specs.Row.{words_beside_true}
use Rattle.pdbdump_rows.proofs.push.is_any_set.Given as goal

abbrev pub invariant-loop-is_set : goal.invariant-loop-is_set
invariant-loop-is_set l = words_beside_true (map (λ flag. (flag.0, flag.1.now)) (take l.is_set-index l.flags)) ≡ []
