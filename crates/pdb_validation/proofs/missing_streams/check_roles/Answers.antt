use Rattle.pdb_validation.proofs.MismatchLemmas.{asked_in_two}
use Rattle.pdb_validation.specs.MissingStreams.{indexes_mismatches, role_indexes, symbol_indexes}
use Rattle.pdb_validation.proofs.missing_streams.check_roles.Goals as goal

pub returns : goal.returns
returns c =
    asked_in_two c.args.scope.now.extent
    (indexes_mismatches c.args.scope.now.layout.now 3 (symbol_indexes c.args.header.now))
    (indexes_mismatches c.args.scope.now.layout.now 3 (role_indexes c.args.roles.now)) _ _
    (rw c.new-mismatches.ensures.items at c.in_ok-add_missing.ensures) c.in_ok-add_missing-2.ensures
