use Rattle.std.proofs.Common.{◌≡◌, [], drop, map}
use Rattle.pdb_values.specs.TypeView.{type_value}
use Rattle.pdb_types.specs.Needs.{numbers, with_needs}
use Rattle.pdb_types.proofs.definitions.Definitions.needs_in.Given as goal

abbrev pub invariant-loop-value : goal.invariant-loop-value
invariant-loop-value l = with_needs l.self [] (map type_value l.records)
    ≡ with_needs l.self (numbers l.needs.items) (map type_value (drop l.value-index l.records))
