-- The fields of a class, a union or an enumeration, as a caller sees them.
use Rattle.std.specs.Prelude.{ℕ, Bool, if◌then◌else◌, is_some, unwrap_or, List, [], length, Option, Some, None, Ok}
use Rattle.pdb_base.specs.Answer.{Answer, ◌>>=◌}
use Rattle.pdb_values.specs.TypeValue.{TypeValue, field_list, name_of_type, plain, values_in}
use Rattle.pdb_values.specs.TypeValue as values
use Rattle.pdb_tpi.specs.{Chain.fields_of, Finder.item_of, Record.type_of, Table.Table}
use Rattle.pdb_handles.specs.{declared.fields.FieldRow.FieldRow, Frame.flag, Row.type_info}
use Rattle.pdb_handles.specs.Listing.{NamedRows, ended_names, placed_rows}

-- the name of a field: that of its type, or of a method
abbrev pub field_name : TypeValue → Option (List ℕ)
field_name (plain (values.method v)) = Some v.name
field_name value = name_of_type value

-- the bytes of a field's name; none if the field has no name
abbrev pub name_bytes : TypeValue → List ℕ
name_bytes value = unwrap_or (field_name value) []

-- a field for the caller, whose name begins here
abbrev pub field_info : ℕ → TypeValue → FieldRow
field_info here value = record {
  info = type_info value;
  name_offset = here;
  name_length = length (name_bytes value);
  has_name = flag (is_some (field_name value));
}

-- fields and their names
abbrev pub listing : List TypeValue → NamedRows FieldRow
listing fields = record { rows = placed_rows field_info name_bytes 0 fields; names = ended_names name_bytes fields }

-- the fields that were found
abbrev pub listing_of : Answer (List TypeValue) → Answer (Option (NamedRows FieldRow))
listing_of found = found >>= λ fields. Ok (Some (listing fields))

-- the fields of a type, if it is a list of fields
abbrev pub own_fields : TypeValue → Option (NamedRows FieldRow)
own_fields (field_list fields continuation) = Some (listing (values_in fields))
own_fields value = None

-- the fields of the list of an index: of the whole list, with those in which it continues, or of its record alone
abbrev pub fields_listed : Bool → Table → ℕ → Answer (Option (NamedRows FieldRow))
fields_listed whole table index =
    if whole
    then listing_of (fields_of (item_of table) index)
    else (item_of table index >>= type_of index >>= λ value. Ok (own_fields value))
