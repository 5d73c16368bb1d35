use Rattle.std.proofs.Common.{drop, map}
use Rattle.pdb_types.specs.Layout.{field_value}
use Rattle.pdb_types.proofs.PartLemmas.{ArePartedTo}
use Rattle.pdb_types.proofs.definitions.Definitions.parted_fields.Given as goal

abbrev pub invariant-loop-field : goal.invariant-loop-field
invariant-loop-field l = ArePartedTo l.self (map field_value l.fields) (map field_value (drop l.field-index l.fields))
    (map field_value l.parted.items)
