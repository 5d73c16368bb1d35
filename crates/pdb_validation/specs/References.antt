-- The indexes to which the record of a type refers (Microsoft's cvinfo.h), by the kind of the record.
use Rattle.std.specs.Prelude.{ℕ, nat_le, if◌then◌else◌, List, [], ◌∷◌, ◌++◌, map, Option, Some, None}
use Rattle.std.specs.Option.{option_map}
use Rattle.pdb_base.specs.declared.index.TypeIndex.{TypeIndex}
use Rattle.pdb_values.specs.declared.field_list.FieldList.{FieldList}
use Rattle.pdb_values.specs.declared.method.MethodListEntry.{MethodListEntry}
use Rattle.pdb_values.specs.IdValue as ids
use Rattle.pdb_values.specs.IdValue.{IdValue}
use Rattle.pdb_values.specs.declared.source_id.UserDefinedTypeSourceFileRef.{UserDefinedTypeSourceFileRef}
use Rattle.pdb_values.specs.declared.source_id.UserDefinedTypeSourceFileRef.TheVariants as files
use Rattle.pdb_values.specs.TypeValue as values
use Rattle.pdb_values.specs.TypeValue.{Fields, PlainValue, TypeValue, first_field, no_field}
use Rattle.pdb_values.specs.TypeView.{fields_value}

-- the number of an index, if there is one
abbrev pub index_number : Option TypeIndex → Option ℕ
index_number index = option_map (λ index. index.0) index

-- the indexes to which a type without a list refers, or a member of a class
abbrev pub plain_references : PlainValue → List (Option ℕ)
plain_references (values.class type) =
    index_number type.fields ∷ index_number type.derived_from ∷ index_number type.vtable_shape ∷ []
plain_references (values.member type) = Some type.field_type.0 ∷ []
plain_references (values.member_function type) =
    Some type.return_type.0 ∷ Some type.class_type.0 ∷ index_number type.this_pointer_type ∷ Some type.argument_list.0
    ∷ []
plain_references (values.overloaded_method type) = Some type.method_list.0 ∷ []
plain_references (values.method type) = Some type.method_type.0 ∷ []
plain_references (values.static_member type) = Some type.field_type.0 ∷ []
plain_references (values.nested type) = Some type.nested_type.0 ∷ []
plain_references (values.base_class type) = Some type.base_class.0 ∷ []
plain_references (values.virtual_base_class type) = Some type.base_class.0 ∷ Some type.base_pointer.0 ∷ []
plain_references (values.virtual_function_table_pointer type) = Some type.table.0 ∷ []
plain_references (values.procedure type) = index_number type.return_type ∷ Some type.argument_list.0 ∷ []
plain_references (values.pointer type) = Some type.underlying_type.0 ∷ index_number type.containing_class ∷ []
plain_references (values.modifier type) = Some type.underlying_type.0 ∷ []
plain_references (values.enumeration type) = Some type.underlying_type.0 ∷ Some type.fields.0 ∷ []
plain_references (values.union type) = Some type.fields.0 ∷ []
plain_references (values.bitfield type) = Some type.underlying_type.0 ∷ []
plain_references value = []

-- the same for a field of a field list, which is no list, and for an array
abbrev pub field_references : TypeValue → List (Option ℕ)
field_references (values.plain value) = plain_references value
field_references (values.array type) = Some type.element_type.0 ∷ Some type.indexing_type.0 ∷ []
field_references value = []

-- the indexes to which fields refer
abbrev pub fields_references : Fields → List (Option ℕ)
fields_references no_field = []
fields_references (first_field value fields) = field_references value ++ fields_references fields

-- the types of arguments
abbrev pub argument_references : List TypeIndex → List (Option ℕ)
argument_references arguments = map (λ argument. Some argument.0) arguments

-- the types of the methods of a method list
abbrev pub method_references : List MethodListEntry → List (Option ℕ)
method_references methods = map (λ method. Some method.method_type.0) methods

-- the indexes to which a type refers
abbrev pub references_of : TypeValue → List (Option ℕ)
references_of (values.field_list fields continuation) = fields_references fields ++ index_number continuation ∷ []
references_of (values.argument_list arguments) = argument_references arguments
references_of (values.method_list methods) = method_references methods
references_of value = field_references value

-- the indexes to which a field list refers
abbrev pub list_references : FieldList → List (Option ℕ)
list_references list = fields_references (fields_value list.fields.items) ++ index_number list.continuation ∷ []

-- the first of these numbers, as far as they are given, that is not below another one
abbrev pub first_from : ℕ → List (Option ℕ) → Option ℕ
first_from least [] = None
first_from least (None ∷ numbers) = first_from least numbers
first_from least (Some number ∷ numbers) = if nat_le least number then Some number else first_from least numbers

-- ---- ids

-- the id of a file's name, if it is one
abbrev pub file_reference : UserDefinedTypeSourceFileRef → Option ℕ
file_reference (files.Local id) = Some id.0
file_reference (files.Remote number name) = None

-- the ids to which an id refers; the parts of a text are ids, too
abbrev pub id_references : IdValue → List (Option ℕ)
id_references (ids.plain (ids.function id)) = option_map (λ scope. scope.0) id.scope ∷ []
id_references (ids.plain (ids.string id)) = option_map (λ substrings. substrings.0) id.substrings ∷ []
id_references (ids.plain (ids.user_defined_type_source id)) = file_reference id.source_file ∷ []
id_references (ids.build_info arguments) = map (λ argument. Some argument.0) arguments
id_references (ids.string_list parts) = argument_references parts
id_references value = []

-- the types to which an id refers
abbrev pub type_references : IdValue → List (Option ℕ)
type_references (ids.plain (ids.function id)) = Some id.function_type.0 ∷ []
type_references (ids.plain (ids.member_function id)) = Some id.parent.0 ∷ Some id.function_type.0 ∷ []
type_references (ids.plain (ids.user_defined_type_source id)) = Some id.udt.0 ∷ []
type_references value = []

-- the first of two numbers, if there is one
abbrev pub one_of : Option ℕ → Option ℕ → Option ℕ
one_of None other = other
one_of (Some number) other = Some number

-- the first of the ids to which an id refers that is not below its index, or of the types that is not below `types`
abbrev pub id_reference_from : ℕ → ℕ → IdValue → Option ℕ
id_reference_from types index value =
    one_of (first_from index (id_references value)) (first_from types (type_references value))
