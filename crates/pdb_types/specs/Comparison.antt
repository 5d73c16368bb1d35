-- What two definitions have in common.
use Rattle.std.specs.Prelude.{ℕ, ◌==◌, Bool, true, false, ◌&&◌, if◌then◌else◌, List, [], ◌∷◌, ◌++◌, map, Option, Some}
use Rattle.std.specs.Prelude.{None, Ok}
use Rattle.std.specs.List.{filter_map}
use Rattle.std.specs.Option.{option_eq}
use Rattle.std.specs.Bool.{beq, nat_eq}
use Rattle.std.specs.Str.{bytes_eq}
use Rattle.pdb_base.specs.Answer.{Answer, ◌>>=◌}
use Rattle.pdb_base.specs.declared.index.TypeIndex.{TypeIndex}
use Rattle.pdb_base.specs.declared.variant.Variant.{Variant}
use Rattle.pdb_tpi.specs.Table.{Table}
use Rattle.pdb_values.specs.Enumeration.{EnumerationValue}
use Rattle.pdb_values.specs.Text.{text_bytes}
use Rattle.pdb_values.specs.TypeValue.{TypeValue, PlainValue, plain, enumeration, enumerate}
use Rattle.pdb_types.specs.declared.comparison.Comparison.{Comparison}
use Rattle.pdb_types.specs.declared.comparison.Comparison.TheVariants.{Equal, TypesDiffer, LayoutDiffers}
use Rattle.pdb_types.specs.declared.comparison.Description.{Description}
use Rattle.pdb_types.specs.declared.comparison.Description.TheVariants as code
use Rattle.pdb_types.specs.declared.comparison.Enumerator.{Enumerator}
use Rattle.pdb_types.specs.declared.layout.ClassBody.{ClassBody}
use Rattle.pdb_types.specs.Agreement.{do_types_agree, keyword_of}
use Rattle.pdb_types.specs.Definition.{definition_of}
use Rattle.pdb_types.specs.Enumerator.{enumerator_value, value_bits}
use Rattle.pdb_types.specs.Extent.{bits_of}
use Rattle.pdb_types.specs.FieldPlace.{FieldRole, base, virtual_function_pointer, virtual_base_pointer, member}
use Rattle.pdb_types.specs.Layout.{FieldValue, body_fields, body_of, field_value, list_there, records_of}
use Rattle.pdb_types.specs.Part.{fields_there}
use Rattle.pdb_types.specs.Size.{size_of}
use Rattle.pdb_types.specs.TypeAt.{type_at}

-- ---- what definitions say

-- an enumerator: its name, and its value as its record has it
pub record EnumeratorValue : Type 0 where
  pub name : List ℕ
  pub value : Variant

-- the value of the code's `Enumerator`
abbrev pub enumerator_of_code : Enumerator → EnumeratorValue
enumerator_of_code enumerator = record { name = text_bytes enumerator.name; value = enumerator.value }

-- What a definition says that is compared: of a class or a union its keyword, its size and its fields; of an
-- enumeration its size, the type under it and its enumerators; of another type that type.
pub data Described : Type 0 where
  described_class : List ℕ → ℕ → List FieldValue → Described
  described_enumeration : Option ℕ → TypeIndex → List EnumeratorValue → Described
  other_type : TypeIndex → Described

-- the value of a `Description`
abbrev pub described : Description → Described
described (code.Class keyword size fields) = described_class keyword.now size (map field_value fields.items)
described (code.Enumeration size over values) =
    described_enumeration size over (map enumerator_of_code values.items)
described (code.Other index) = other_type index

-- the enumerator of a record, if it is of one
abbrev pub plain_enumerator : PlainValue → Option EnumeratorValue
plain_enumerator (enumerate value) = Some (record { name = value.name; value = value.value })
plain_enumerator value = None

abbrev pub enumerator_of : TypeValue → Option EnumeratorValue
enumerator_of (plain value) = plain_enumerator value
enumerator_of value = None

-- what a class or a union with this keyword says that says this of its layout
abbrev pub describe_class : Table → List ℕ → ClassBody → Answer Described
describe_class table keyword body = do
  stated ← body_fields table body
  fields ← fields_there table stated
  Ok (described_class keyword body.size fields)

-- what an enumeration with this record says
abbrev pub describe_enumeration : Table → EnumerationValue → Answer Described
describe_enumeration table value = do
  size ← size_of table value.underlying_type.0
  records ← records_of table (list_there value.fields)
  Ok (described_enumeration size value.underlying_type (filter_map enumerator_of records))

-- what a class, a union or an enumeration with this record says
abbrev pub describe_body : Table → TypeIndex → List ℕ → Option ClassBody → Answer Described
describe_body table index keyword (Some body) = describe_class table keyword body
describe_body table index keyword None = Ok (other_type index)

-- the enumeration that a type is
abbrev pub plain_enumeration : PlainValue → Option EnumerationValue
plain_enumeration (enumeration value) = Some value
plain_enumeration value = None

abbrev pub enumeration_of : TypeValue → Option EnumerationValue
enumeration_of (plain value) = plain_enumeration value
enumeration_of value = None

abbrev pub describe_if : Table → TypeIndex → ℕ → TypeValue → Option EnumerationValue → Answer Described
describe_if table index definition value (Some one) = describe_enumeration table one
describe_if table index definition value None =
    describe_body table index (keyword_of value) (body_of (record { 0 = definition }) value)

abbrev pub describe_value : Table → TypeIndex → ℕ → TypeValue → Answer Described
describe_value table index definition value = describe_if table index definition value (enumeration_of value)

abbrev pub describe_definition : Table → TypeIndex → Option ℕ → Answer Described
describe_definition table index (Some definition) = type_at table definition >>= describe_value table index definition
describe_definition table index None = Ok (other_type index)

-- what the definition of a type says, or the type itself if it has no definition
unfoldable pub description_of : Table → TypeIndex → Answer Described
description_of table index = definition_of table index.0 >>= describe_definition table index

-- ---- one layout

-- whether two fields are of one kind, with one name
abbrev pub have_one_role : FieldRole → FieldRole → Bool
have_one_role base base = true
have_one_role virtual_function_pointer virtual_function_pointer = true
have_one_role (virtual_base_pointer one) (virtual_base_pointer other) =
    beq one.direct other.direct && one.position == other.position
have_one_role (member name) (member other) = bytes_eq name other
have_one_role one other = false

-- whether two fields are of one kind, with one name, and take the same bits at one offset
abbrev pub is_field_like : FieldValue → FieldValue → Bool
is_field_like one other =
    have_one_role one.place.role other.place.role && one.place.offset == other.place.offset
    && (bits_of one.place.offset one.extent).start == (bits_of other.place.offset other.extent).start
    && (bits_of one.place.offset one.extent).end == (bits_of other.place.offset other.extent).end

-- the value of an enumerator in 64 bits, in an enumeration over this type
abbrev pub enumerated_number : TypeIndex → EnumeratorValue → ℕ
enumerated_number over enumerator = value_bits (enumerator_value enumerator.value over.0)

-- whether two enumerators, in enumerations over these types, have one name and one value
abbrev pub is_enumerator_like : TypeIndex → TypeIndex → EnumeratorValue → EnumeratorValue → Bool
is_enumerator_like over other_over one other =
    bytes_eq one.name other.name && enumerated_number over one == enumerated_number other_over other

-- whether the elements of two lists pass a test, one by one, and the lists have one length
abbrev pub each_like : {A : Type 0} → (A → A → Bool) → List A → List A → Bool
each_like like [] [] = true
each_like like (one ∷ ones) (other ∷ others) = like one other && each_like like ones others
each_like like ones others = false

-- whether two definitions have one layout: the same keyword and size, and the same fields in the same places; or the
-- same size and enumerators
abbrev pub have_one_layout : Described → Described → Bool
have_one_layout (described_class keyword size fields) (described_class keyword' size' fields') =
    bytes_eq keyword keyword' && size == size' && each_like is_field_like fields fields'
have_one_layout (described_enumeration size over values) (described_enumeration size' over' values') =
    option_eq nat_eq size size' && each_like (is_enumerator_like over over') values values'
have_one_layout (other_type index) (other_type other) = true
have_one_layout one other = false

-- ---- types by name

-- the types that a field has: its own, and for a pointer to a table of virtual bases that of the base class
abbrev pub role_types : FieldRole → List TypeIndex
role_types (virtual_base_pointer class) = class.base_class ∷ []
role_types role = []

abbrev pub field_types : List FieldValue → List TypeIndex
field_types [] = []
field_types (field ∷ fields) = field.place.field_type ∷ (role_types field.place.role ++ field_types fields)

-- the types that a definition names
abbrev pub described_types : Described → List TypeIndex
described_types (described_class keyword size fields) = field_types fields
described_types (described_enumeration size over values) = over ∷ []
described_types (other_type index) = index ∷ []

-- ---- the comparison

-- what two definitions have in common that say this
abbrev pub compared : Table → Table → Described → Described → Comparison
compared old new one other =
    if have_one_layout one other
    then (if do_types_agree old new (described_types one) (described_types other) then Equal else TypesDiffer)
    else LayoutDiffers

-- what the definitions of two types have in common
unfoldable pub comparison_of : Table → TypeIndex → Table → TypeIndex → Answer Comparison
comparison_of old index new other = do
  one ← description_of old index
  two ← description_of new other
  Ok (compared old new one two)
