use Rattle.std.proofs.Common.{◌≡◌, ◌+◌, ◌-◌, length}
use Rattle.pdb_validation.specs.Mismatch.{with_further}
use Rattle.pdb_validation.specs.Modules.{entries_mismatches}
use Rattle.pdb_validation.proofs.modules.add_entries.Given as goal

abbrev pub invariant-loop-index : goal.invariant-loop-index
invariant-loop-index l = record {
  place : l.byte + length l.left ≡ 64 + length l.list;
  all : with_further l.extent l.mismatches.items
      (entries_mismatches l.layout (length l.list - l.index) l.index l.byte l.left)
      ≡ with_further l.extent l.initial.mismatches.items
      (entries_mismatches l.layout (length l.list) 0 64 l.list);
}
