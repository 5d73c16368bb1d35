use Rattle.std.proofs.Common.{◌≡◌, drop, map, None}
use Rattle.pdb_types.specs.Layout.{field_value}
use Rattle.pdb_types.specs.Part.{last_base}
use Rattle.pdb_types.proofs.part.last_base.Given as goal

abbrev pub invariant-loop-field : goal.invariant-loop-field
invariant-loop-field l = last_base None (map field_value l.fields)
    ≡ last_base l.last (map field_value (drop l.field-index l.fields))
