-- The layout of a class, as a caller sees it: a row for each field, and then one for each gap.
use Rattle.std.specs.Prelude.{◌≡◌, ◌⊎◌, ℕ, ◌-◌, ◌/◌, ◌%◌, min, List, [], ◌++◌, length, map}
use Rattle.std.specs.Prelude.{Bool, Option, Some, None, Ok, Err}
use Rattle.std.specs.List.{list_any}
use Rattle.pdb_base.specs.Answer.{Answer}
use Rattle.pdb_base.specs.Refusal.{out_of_memory}
use Rattle.pdb_types.specs.declared.extent.Extent.{Extent}
use Rattle.pdb_types.specs.declared.extent.Extent.TheVariants as extents
use Rattle.pdb_types.specs.declared.gap.Gap.{Gap}
use Rattle.pdb_types.specs.declared.gap.GapKind.{GapKind}
use Rattle.pdb_types.specs.declared.gap.GapKind.TheVariants as gaps
use Rattle.pdb_types.specs.declared.span.Span.{Span}
use Rattle.pdb_types.specs.Extent.{bits_of}
use Rattle.pdb_types.specs.FieldPlace.{FieldRole, base, is_virtual_role, member}
use Rattle.pdb_types.specs.FieldPlace.{virtual_base_pointer, virtual_function_pointer}
use Rattle.pdb_types.specs.Gap.{AreGapRows}
use Rattle.pdb_types.specs.Layout.{FieldValue, ClassLayout}
use Rattle.pdb_types.specs.Part.{layout_of_type}
use Rattle.pdb_handles.specs.declared.layout_row.LayoutRow.{LayoutRow}
use Rattle.pdb_handles.specs.{declared.content.Records.Records, Definitions.definitions_say}
use Rattle.pdb_handles.specs.Fault.{fault_of_refusal, no_value, not_open}
use Rattle.pdb_handles.specs.Frame.{flag}
use Rattle.pdb_handles.specs.Listing.{Listed, ended_names, no_rows_copied, rows_copied, placed_rows}

-- a row of zeros
abbrev pub no_layout : LayoutRow
no_layout = record {
  offset = 0;
  size = 0;
  name_offset = 0;
  name_length = 0;
  kind = 0;
  extent = 0;
  bit = 0;
  bits = 0;
  type_index = 0;
  base_class = 0;
  base_position = 0;
  is_direct = 0;
}

-- what a row says of a field's kind, if its name begins here
abbrev pub entry_of_role : ℕ → FieldRole → LayoutRow → LayoutRow
entry_of_role here base row = record row { kind = 0 }
entry_of_role here (virtual_base_pointer class) row = record row {
  kind = 1;
  base_class = class.base_class.0;
  base_position = class.position;
  is_direct = flag class.direct;
}
entry_of_role here virtual_function_pointer row = record row { kind = 2 }
entry_of_role here (member name) row = record row { kind = 3; name_offset = here; name_length = length name }

-- what a row says of how far a field goes
abbrev pub with_extent : Extent → LayoutRow → LayoutRow
with_extent (extents.Bytes size) row = record row { extent = 0; size = size }
with_extent (extents.Bits field) row = record row { extent = 1; bit = field.position; bits = field.length }
with_extent extents.Unknown row = record row { extent = 2 }

-- the row of a field, whose name begins here
unfoldable pub field_entry : ℕ → FieldValue → LayoutRow
field_entry here field =
    let row : LayoutRow = record no_layout { offset = field.place.offset; type_index = field.place.field_type.0 } in
    entry_of_role here field.place.role (with_extent field.extent row)

-- the row of whole bytes that no field takes
abbrev pub bytes_row : ℕ → Span → LayoutRow
bytes_row kind bits = record no_layout {
  kind = kind;
  offset = bits.start / 8;
  size = (bits.end - bits.start) / 8;
}

-- the row of a gap
abbrev pub row_of_kind : GapKind → Span → LayoutRow
row_of_kind gaps.Hole bits = bytes_row 4 bits
row_of_kind gaps.UnusedBits bits = record no_layout {
  kind = 5;
  offset = bits.start / 8;
  extent = 1;
  bit = bits.start % 8;
  bits = min (bits.end - bits.start) 0xffffffff;
}
row_of_kind gaps.VirtualBases bits = bytes_row 6 bits

unfoldable pub gap_entry : Gap → LayoutRow
gap_entry gap = row_of_kind gap.kind gap.bits

-- the bytes of a field's name; none if it is no member
abbrev pub role_name : FieldRole → List ℕ
role_name (member name) = name
role_name role = []

abbrev pub field_name : FieldValue → List ℕ
field_name field = role_name field.place.role

-- the bits that a field takes
abbrev pub value_span : FieldValue → Span
value_span field = bits_of field.place.offset field.extent

-- whether a field is a pointer to a table of virtual bases
abbrev pub is_virtual_value : FieldValue → Bool
is_virtual_value field = is_virtual_role field.place.role

-- the rows of fields, and then those of gaps
abbrev pub rows_of : List FieldValue → List Gap → List LayoutRow
rows_of fields gaps = placed_rows field_entry field_name 0 fields ++ map gap_entry gaps

-- The rows of a layout are written, and the names of its fields.
pub record WritesLayout (rows : List LayoutRow) (names : List ℕ) (layout : ClassLayout) (told : Listed LayoutRow)
    : Type 0 where
  pub gaps : List Gap
  pub are : AreGapRows (map value_span layout.fields) layout.size (list_any is_virtual_value layout.fields) gaps
  pub done : told ≡ rows_copied rows names (rows_of layout.fields gaps) (ended_names field_name layout.fields)

-- The same for a layout that may be absent or refused.
abbrev pub LaysOut : List LayoutRow → List ℕ → Answer (Option ClassLayout) → Listed LayoutRow → Type 0
LaysOut rows names (Ok (Some layout)) told = WritesLayout rows names layout told
LaysOut rows names (Ok None) told = told ≡ no_rows_copied no_value rows names
LaysOut rows names (Err refusal) told = told ≡ no_rows_copied (fault_of_refusal refusal) rows names

-- The same; or memory ran out, and nothing was written.
abbrev pub LaysOutOrLacks : List LayoutRow → List ℕ → Answer (Option ClassLayout) → Listed LayoutRow → Type 0
LaysOutOrLacks rows names meant told =
    LaysOut rows names meant told ⊎ (told ≡ no_rows_copied (fault_of_refusal out_of_memory) rows names)

-- The same for the type of an index in the table that a handle holds; nothing is written if it holds none.
abbrev pub LaysOutOf : List LayoutRow → List ℕ → ℕ → Option Records → Listed LayoutRow → Type 0
LaysOutOf rows names index (Some records) told =
    LaysOutOrLacks rows names (definitions_say (λ table. layout_of_type table index) records) told
LaysOutOf rows names index None told = told ≡ no_rows_copied not_open rows names
