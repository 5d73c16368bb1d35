use Rattle.std.proofs.Common.{◌≡◌, ◌++◌, drop, map}
use Rattle.std.specs.List.{filter_map}
use Rattle.pdb_values.specs.TypeView.{type_value}
use Rattle.pdb_types.specs.Comparison.{enumerator_of, enumerator_of_code}
use Rattle.pdb_types.proofs.comparison.enumerators_in.Given as goal

abbrev pub invariant-loop-value : goal.invariant-loop-value
invariant-loop-value l = filter_map enumerator_of (map type_value l.records)
    ≡ map enumerator_of_code l.values.items ++ filter_map enumerator_of (map type_value (drop l.value-index l.records))
