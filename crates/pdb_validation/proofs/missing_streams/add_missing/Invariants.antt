use Rattle.std.proofs.Common.{◌≡◌, drop}
use Rattle.pdb_validation.specs.Mismatch.{with_further}
use Rattle.pdb_validation.specs.MissingStreams.{indexes_mismatches}
use Rattle.pdb_validation.proofs.missing_streams.add_missing.Given as goal

abbrev pub invariant-loop-index : goal.invariant-loop-index
invariant-loop-index l =
    with_further l.extent l.mismatches.items (indexes_mismatches l.layout l.stream (drop l.index-index l.indexes))
    ≡ with_further l.extent l.initial.mismatches.items (indexes_mismatches l.layout l.stream l.indexes)
