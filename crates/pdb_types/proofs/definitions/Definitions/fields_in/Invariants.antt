use Rattle.std.proofs.Common.{drop, map}
use Rattle.pdb_values.specs.TypeView.{type_value}
use Rattle.pdb_types.specs.Layout.{field_value}
use Rattle.pdb_types.proofs.LayoutLemmas.{AreFieldsTo}
use Rattle.pdb_types.proofs.definitions.Definitions.fields_in.Given as goal

abbrev pub invariant-loop-value : goal.invariant-loop-value
invariant-loop-value l = AreFieldsTo l.self (map type_value l.records) (map type_value (drop l.value-index l.records))
    (map field_value l.fields.items)
