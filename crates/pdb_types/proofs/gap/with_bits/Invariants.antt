use Rattle.std.proofs.Common.{◌≡◌, ◌++◌, map, take}
use Rattle.pdb_types.proofs.GapLemmas.{row_bits}
use Rattle.pdb_types.proofs.gap.with_bits.Given as goal

abbrev pub invariant-loop-row : goal.invariant-loop-row
invariant-loop-row l = l.all.items ≡ l.initial.all.items ++ map row_bits (take l.row-index l.rows)
