use Rattle.std.proofs.Common.{◌≡◌, ◌++◌, map, take}
use Rattle.pdb_types.specs.Gap.{unused_row}
use Rattle.pdb_types.proofs.gap.push_unused.Given as goal

abbrev pub invariant-loop-bits : goal.invariant-loop-bits
invariant-loop-bits l = l.rows.items ≡ l.fn.rows.items ++ map unused_row (take l.bits-index l.unused)
