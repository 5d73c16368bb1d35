-- Classes within a class are shown at most 256 deep.
use Rattle.std.proofs.Common.{◌+◌, ◌-◌, ◌*◌}
use Rattle.pdbdump_layouts.proofs.expanded.+rows.Given as goal

abbrev pub decreases-push_inner : goal.decreases-push_inner
decreases-push_inner l = 2 * (256 - l.outer.depth)

abbrev pub decreases-push_rows : goal.decreases-push_rows
decreases-push_rows l = 2 * (256 - l.depth) + 1
