-- What is appended so far, followed by what is left, is what is meant.
use Rattle.std.proofs.Common.{◌≡◌, ◌++◌, length}
use Rattle.pdb_msf.proofs.source.append.Given as goal

abbrev pub invariant-loop-left : goal.invariant-loop-left
invariant-loop-left l = l.bytes.items ++ l.left ≡ l.fn.bytes.items ++ l.fn.added

abbrev pub decreases-loop-left : goal.decreases-loop-left
decreases-loop-left l = length l.left
