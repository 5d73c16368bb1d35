use Rattle.std.proofs.Common.{◌≡◌, drop, map, max}
use Rattle.pdb_types.specs.Layout.{field_value}
use Rattle.pdb_types.specs.Part.{own_end}
use Rattle.pdb_types.proofs.part.own_end.Given as goal

abbrev pub invariant-loop-field : goal.invariant-loop-field
invariant-loop-field l = own_end (map field_value l.fields)
    ≡ max l.end (own_end (map field_value (drop l.field-index l.fields)))
