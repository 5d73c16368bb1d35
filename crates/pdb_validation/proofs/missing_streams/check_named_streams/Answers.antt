use Rattle.std.proofs.Common.{map}
use Rattle.std.proofs.lemmas.List.{at_drop_all}
use Rattle.pdb_file.specs.StreamNames.{named_view}
use Rattle.pdb_validation.specs.MissingStreams.{names_mismatches}
use Rattle.pdb_validation.proofs.MismatchLemmas.{asked_end}
use Rattle.pdb_validation.proofs.missing_streams.check_named_streams.Goals as goal

pub returns : goal.returns
returns c =
    asked_end _ _ _ (names_mismatches c.args.scope.now.layout.now c.args.names.now) c.loop-name.invariant
    (at_drop_all (λ names. names_mismatches c.args.scope.now.layout.now (map named_view names))
    c.as_slice-entries.result.now _ c.loop-name-test.false)
