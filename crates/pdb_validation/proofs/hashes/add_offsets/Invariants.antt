use Rattle.std.proofs.Common.{◌≡◌}
use Rattle.pdb_validation.specs.Hashes.{offset_mismatch}
use Rattle.pdb_validation.specs.Mismatch.{with_further}
use Rattle.pdb_validation.specs.Words.{mismatches_at}
use Rattle.pdb_validation.proofs.hashes.add_offsets.Given as goal

abbrev pub invariant-loop-place : goal.invariant-loop-place
invariant-loop-place g l = l.mismatches.items
    ≡ with_further l.extent l.initial.mismatches.items
    (mismatches_at (offset_mismatch l.number l.table.table l.offsets) l.place)
