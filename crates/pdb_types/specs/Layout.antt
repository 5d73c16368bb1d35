-- Where the fields of a class are, and which of its bits no field takes.
use Rattle.std.specs.Prelude.{ℕ, ◌==◌, Bool, if◌then◌else◌, List, [], ◌∷◌, ◌++◌, length, map, Option, Some, None, Ok}
use Rattle.std.specs.List.{cons_option, list_any}
use Rattle.std.specs.Option.{option_to_list}
use Rattle.pdb_base.specs.Answer.{Answer, ◌>>=◌}
use Rattle.pdb_base.specs.declared.index.TypeIndex.{TypeIndex}
use Rattle.pdb_tpi.specs.Chain.{fields_of}
use Rattle.pdb_tpi.specs.Finder.{item_of}
use Rattle.pdb_tpi.specs.Table.{Table}
use Rattle.pdb_values.specs.TypeValue.{TypeValue, PlainValue, plain, class, union}
use Rattle.pdb_types.specs.declared.extent.Extent.{Extent}
use Rattle.pdb_types.specs.declared.layout.ClassBody.{ClassBody}
use Rattle.pdb_types.specs.declared.layout.Layout.{Layout}
use Rattle.pdb_types.specs.declared.layout.LayoutField.{LayoutField}
use Rattle.pdb_types.specs.declared.span.Span.{Span}
use Rattle.pdb_types.specs.Definition.{definition_of}
use Rattle.pdb_types.specs.Extent.{bits_of, extent_at}
use Rattle.pdb_types.specs.FieldPlace.{PlaceValue, field_role, is_virtual_role, place_of_field, place_value}
use Rattle.pdb_types.specs.Gap.{AreGapRows}
use Rattle.pdb_types.specs.TypeAt.{type_at}

-- a field of a class: what it is, where it begins and how far it goes
pub record FieldValue : Type 0 where
  pub place : PlaceValue
  pub extent : Extent

-- the value of a `LayoutField`
abbrev pub field_value : LayoutField → FieldValue
field_value field = record { place = place_value field.place; extent = field.extent }

-- the bits that a field takes
abbrev pub field_span : LayoutField → Span
field_span field = bits_of field.place.offset field.extent

-- whether a field is a pointer to a table of virtual bases
abbrev pub is_virtual_field : LayoutField → Bool
is_virtual_field field = is_virtual_role (field_role field.place.kind)

-- the field that begins at a place, which goes as far as its type says
abbrev pub field_from : Table → Option PlaceValue → Answer (Option FieldValue)
field_from table (Some place) = extent_at table place.field_type.0
    >>= λ extent. Ok (Some (record { place = place; extent = extent }))
field_from table None = Ok None

-- the field of a record in a list of fields, if the record is of one
unfoldable pub field_of : Table → TypeValue → Answer (Option FieldValue)
field_of table value = field_from table (place_of_field value)

-- fields, followed by one more if there is one
abbrev pub with_field : List FieldValue → Answer (Option FieldValue) → Answer (List FieldValue)
with_field fields field = field >>= λ one. Ok (fields ++ option_to_list one)

-- the fields of records in order, or the first error among them
abbrev pub field_values_in : Table → List TypeValue → Answer (List FieldValue)
field_values_in table [] = Ok []
field_values_in table (value ∷ values) = field_of table value >>= λ field. field_values_in table values
    >>= λ fields. Ok (cons_option field fields)

-- a list of an index, unless that stands for no type
abbrev pub list_there : TypeIndex → Option TypeIndex
list_there list = if list.0 == 0 then None else Some list

-- what the class or union of an index says of its layout: its size, and the list of its fields
abbrev pub plain_body : TypeIndex → PlainValue → Option ClassBody
plain_body index (class value) = Some (record { index = index; size = value.size; list = value.fields })
plain_body index (union value) = Some (record { index = index; size = value.size; list = list_there value.fields })
plain_body index value = None

-- the same of any type
abbrev pub body_of : TypeIndex → TypeValue → Option ClassBody
body_of index (plain value) = plain_body index value
body_of index value = None

-- the records of a list of fields and of the lists in which it continues
abbrev pub records_of : Table → Option TypeIndex → Answer (List TypeValue)
records_of table (Some list) = fields_of (item_of table) list.0
records_of table None = Ok []

-- a layout: the index of the definition, the size in bytes, how many records its list has, and the fields in the order
-- of their records
pub record ClassLayout : Type 0 where
  pub index : ℕ
  pub size : ℕ
  pub records : ℕ
  pub fields : List FieldValue

-- the value of a `Layout`, without its gaps
abbrev pub layout_value : Layout → ClassLayout
layout_value layout = record {
  index = layout.index.0;
  size = layout.size;
  records = layout.records;
  fields =
      map field_value layout.fields.items;
}

-- the gaps of a layout are those that its fields leave
abbrev pub HasGaps : Layout → Type 0
HasGaps layout = AreGapRows (map field_span layout.fields.items) layout.size
    (list_any is_virtual_field layout.fields.items) layout.gaps.items

-- the fields of a class or a union that says this of it, each as large as its type
abbrev pub body_fields : Table → ClassBody → Answer (List FieldValue)
body_fields table body = records_of table body.list >>= field_values_in table

-- what a definition says of its layout, if it is a class or a union
abbrev pub definition_body : Table → Option ℕ → Answer (Option ClassBody)
definition_body table (Some index) = type_at table index >>= λ value. Ok (body_of (record { 0 = index }) value)
definition_body table None = Ok None

-- what the type of an index says of its layout: its definition, if it has one that is a class or a union
unfoldable pub class_at : Table → ℕ → Answer (Option ClassBody)
class_at table index = definition_of table index >>= definition_body table
