use Rattle.std.proofs.Common.{◌≡◌, map, take}
use Rattle.pdb_types.specs.Gap.{hole_row}
use Rattle.pdb_types.proofs.gap.hole_rows.Given as goal

abbrev pub invariant-loop-hole : goal.invariant-loop-hole
invariant-loop-hole l = l.rows.items ≡ map hole_row (take l.hole-index l.holes)
