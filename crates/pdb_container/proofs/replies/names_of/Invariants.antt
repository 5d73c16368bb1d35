use Rattle.std.proofs.Common.{◌≡◌, map, take}
use Rattle.std.specs.Option.{option_map}
use Rattle.pdb_values.specs.TypeValue.{name_of_type}
use Rattle.pdb_values.specs.TypeView.{type_value}
use Rattle.pdb_container.proofs.replies.names_of.Given as goal

abbrev pub invariant-loop-field : goal.invariant-loop-field
invariant-loop-field l = map (λ name. option_map (λ copy. copy.items) name) l.names.items
    ≡ map name_of_type (map type_value (take l.field-index l.fields))
