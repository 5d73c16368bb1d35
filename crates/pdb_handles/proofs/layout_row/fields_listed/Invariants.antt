use Rattle.std.proofs.Common.{◌≡◌, map, take}
use Rattle.pdb_types.specs.Layout.{field_value}
use Rattle.pdb_handles.specs.{LayoutRow.field_entry, LayoutRow.field_name, Listing.ended_names, Listing.placed_rows}
use Rattle.pdb_handles.proofs.layout_row.fields_listed.Given as goal

abbrev pub invariant-loop-field : goal.invariant-loop-field
invariant-loop-field l =
    (l.rows.items ≡ placed_rows field_entry field_name 0 (map field_value (take l.field-index l.fields)))
    × (l.names.items ≡ ended_names field_name (map field_value (take l.field-index l.fields)))
