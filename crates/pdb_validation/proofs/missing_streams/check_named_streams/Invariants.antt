use Rattle.std.proofs.Common.{◌≡◌, [], drop, map}
use Rattle.pdb_file.specs.StreamNames.{named_view}
use Rattle.pdb_validation.specs.Mismatch.{with_further}
use Rattle.pdb_validation.specs.MissingStreams.{names_mismatches}
use Rattle.pdb_validation.proofs.missing_streams.check_named_streams.Given as goal

abbrev pub invariant-loop-name : goal.invariant-loop-name
invariant-loop-name l =
    with_further l.scope.extent l.mismatches.items
    (names_mismatches l.scope.layout.now (map named_view (drop l.name-index l.entries)))
    ≡ with_further l.scope.extent [] (names_mismatches l.scope.layout.now l.names)
