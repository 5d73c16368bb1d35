use Rattle.std.proofs.Common.{◌≡◌, ◌≤◌}
use Rattle.pdb_validation.specs.Mismatch.{with_further}
use Rattle.pdb_validation.specs.StringTable.{bucket_mismatch, names_before, names_in_buckets}
use Rattle.pdb_validation.specs.Words.{mismatches_at}
use Rattle.pdb_validation.proofs.string_table.add_buckets.Given as goal

abbrev pub invariant-loop-place : goal.invariant-loop-place
invariant-loop-place l = record {
  names : l.names ≡ names_in_buckets l.stream l.place;
  few : l.names ≤ l.place;
  before : l.before ≡ names_before l.stream l.place;
  mismatches : l.mismatches.items
      ≡ with_further l.extent l.initial.mismatches.items (mismatches_at (bucket_mismatch l.number l.stream) l.place);
}
