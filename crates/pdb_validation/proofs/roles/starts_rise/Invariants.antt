use Rattle.std.proofs.Common.{◌≡◌, length, map}
use Rattle.pdb_validation.specs.Roles.{rises, starts_rise}
use Rattle.pdb_validation.proofs.roles.starts_rise.Given as goal

abbrev pub invariant-loop-frame : goal.invariant-loop-frame
invariant-loop-frame l = rises 1 l.least (map (λ frame. frame.code_start) l.frames) ≡ starts_rise l.fn.frames

abbrev pub decreases-loop-frame : goal.decreases-loop-frame
decreases-loop-frame l = length l.frames
