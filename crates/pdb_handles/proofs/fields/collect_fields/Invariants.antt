use Rattle.std.proofs.Common.{◌≡◌, map, take}
use Rattle.pdb_values.specs.TypeView.{type_value}
use Rattle.pdb_handles.specs.{Fields.field_info, Fields.name_bytes, Listing.ended_names, Listing.placed_rows}
use Rattle.pdb_handles.proofs.fields.collect_fields.Given as goal

abbrev pub invariant-loop-field : goal.invariant-loop-field
invariant-loop-field l =
    (l.rows.items ≡ placed_rows field_info name_bytes 0 (map type_value (take l.field-index l.fields)))
    × (l.names.items ≡ ended_names name_bytes (map type_value (take l.field-index l.fields)))
