use Rattle.std.proofs.Common.{◌≡◌, ◌++◌, drop, map}
use Rattle.pdb_types.specs.Comparison.{field_types}
use Rattle.pdb_types.specs.Layout.{field_value}
use Rattle.pdb_types.proofs.comparison.field_types.Given as goal

abbrev pub invariant-loop-field : goal.invariant-loop-field
invariant-loop-field l = field_types (map field_value l.fields)
    ≡ l.types.items ++ field_types (map field_value (drop l.field-index l.fields))
