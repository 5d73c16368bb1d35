use Rattle.std.proofs.Common.{◌≡◌, take, map}
use Rattle.pdb_values.specs.TypeView.{type_value}
use Rattle.pdb_values.proofs.type_data.+copy.Given as goal

-- the fields so far are copied
abbrev pub invariant-copy_fields-loop-field : goal.invariant-copy_fields-loop-field
invariant-copy_fields-loop-field l = map type_value l.copies.items ≡ map type_value (take l.field-index l.fields)
