use Rattle.std.proofs.Common.{◌≡◌}
use Rattle.pdb_validation.specs.Hashes.{value_mismatch}
use Rattle.pdb_validation.specs.Mismatch.{with_further}
use Rattle.pdb_validation.specs.Words.{mismatches_at}
use Rattle.pdb_validation.proofs.hashes.add_values.Given as goal

abbrev pub invariant-loop-place : goal.invariant-loop-place
invariant-loop-place g l = l.mismatches.items
    ≡ with_further l.extent l.initial.mismatches.items
    (mismatches_at (value_mismatch l.number l.table.table.header l.values) l.place)
