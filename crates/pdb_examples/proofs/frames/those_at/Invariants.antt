use Rattle.std.proofs.Common.{◌≡◌, ◌++◌, length}
use Rattle.std.specs.List.{filter}
use Rattle.pdb_container.specs.Merge.{by_heads}
use Rattle.pdb_examples.specs.Uses.{is_at}
use Rattle.pdb_examples.proofs.frames.those_at.Given as goal

abbrev pub invariant-loop-frame : goal.invariant-loop-frame
invariant-loop-frame l = filter (is_at l.address) (by_heads l.fn.table.old l.fn.table.new) ≡ l.found.items
    ++ filter (is_at l.address) l.frames

abbrev pub decreases-loop-frame : goal.decreases-loop-frame
decreases-loop-frame l = length l.frames
