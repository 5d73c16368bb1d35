-- The rows of type records: the fields behind the leaf of a record, in the order of the structs in
-- Microsoft's cvinfo.h. It depends on the leaf whether a text in the record ends with a NUL or has its
-- length before it.
use Rattle.std.specs.Prelude.{ℕ, ◌+◌, ◌/◌, ◌%◌, ◌^◌, Bool, if◌then◌else◌}
use Rattle.pdb_base.specs.declared.index.TypeIndex.{TypeIndex}
use Rattle.pdb_base.specs.Bits.{is_bit_set}
use Rattle.pdb_flags.specs.TypeProperties.{has_unique_name}
use Rattle.pdb_flags.specs.FieldAttributes.{is_intro_virtual}
use Rattle.pdb_flags.specs.PointerAttributes.{pointer_to_member}
use Rattle.pdb_records.specs.Shape.{u8, u16, u32, num, variant, type_index, some_type, pointer_word, text, when, times}
use Rattle.pdb_records.specs.Row.{Row, gives}
use Rattle.pdb_records.specs.InOrder.{◌>>=◌}
use Rattle.pdb_values.specs.declared.class.ClassKind.{ClassKind}
use Rattle.pdb_values.specs.declared.method.MethodListEntry.{MethodListEntry}
use Rattle.pdb_values.specs.TypeValue.{PlainValue}
use Rattle.pdb_values.specs.TypeValue as values

-- the low 16 bits of a number
abbrev pub low_16 : ℕ → ℕ
low_16 n = n % 2 ^ 16

-- the low 32 bits of a number
abbrev pub low_32 : ℕ → ℕ
low_32 n = n % 2 ^ 32

-- lfClass: a class, a struct or an interface
unfoldable pub class_row : ℕ → ClassKind → Row PlainValue
class_row leaf kind = do
  count ← u16
  properties ← u16
  fields ← some_type
  derived_from ← some_type
  vtable_shape ← some_type
  size ← num
  name ← text leaf
  unique_name ← when (has_unique_name properties) (text leaf)
  gives (values.class (record {
    kind = kind;
    count = count;
    properties = properties;
    fields = fields;
    derived_from = derived_from;
    vtable_shape = vtable_shape;
    size = size;
    name = name;
    unique_name = unique_name;
  }))

-- the same with a wider word of properties, in an order of fields that this library chose; of the
-- properties, only the low 16 bits are kept
unfoldable pub wide_class_row : ℕ → ClassKind → Row PlainValue
wide_class_row leaf kind = do
  word ← u32
  fields ← some_type
  derived_from ← some_type
  vtable_shape ← some_type
  count ← u16
  size ← num
  name ← text leaf
  unique_name ← when (has_unique_name (low_16 word)) (text leaf)
  gives (values.class (record {
    kind = kind;
    count = count;
    properties = low_16 word;
    fields = fields;
    derived_from = derived_from;
    vtable_shape = vtable_shape;
    size = size;
    name = name;
    unique_name = unique_name;
  }))

-- lfUnion
unfoldable pub union_row : ℕ → Row PlainValue
union_row leaf = do
  count ← u16
  properties ← u16
  fields ← type_index
  size ← num
  name ← text leaf
  unique_name ← when (has_unique_name properties) (text leaf)
  gives (values.union (record {
    count = count;
    properties = properties;
    fields = fields;
    size = size;
    name = name;
    unique_name = unique_name;
  }))

-- lfEnum
unfoldable pub enumeration_row : ℕ → Row PlainValue
enumeration_row leaf = do
  count ← u16
  properties ← u16
  underlying_type ← type_index
  fields ← type_index
  name ← text leaf
  unique_name ← when (has_unique_name properties) (text leaf)
  gives (values.enumeration (record {
    count = count;
    properties = properties;
    underlying_type = underlying_type;
    fields = fields;
    name = name;
    unique_name = unique_name;
  }))

-- lfEnumerate: a value of an enumeration
unfoldable pub enumerate_row : ℕ → Row PlainValue
enumerate_row leaf = do
  attributes ← u16
  value ← variant
  name ← text leaf
  gives (values.enumerate (record { attributes = attributes; value = value; name = name }))

-- lfMember
unfoldable pub member_row : ℕ → Row PlainValue
member_row leaf = do
  attributes ← u16
  field_type ← type_index
  offset ← num
  name ← text leaf
  gives (values.member (record { attributes = attributes; field_type = field_type; offset = offset; name = name }))

-- lfSTMember
unfoldable pub static_member_row : ℕ → Row PlainValue
static_member_row leaf = do
  attributes ← u16
  field_type ← type_index
  name ← text leaf
  gives (values.static_member (record { attributes = attributes; field_type = field_type; name = name }))

-- lfNestType, whose first word is ignored, and lfNestTypeEx, whose first word is the attributes
unfoldable pub nested_row : ℕ → Bool → Row PlainValue
nested_row leaf has_attributes = do
  word ← u16
  nested_type ← type_index
  name ← text leaf
  gives (values.nested (record {
    attributes = if has_attributes then word else 0;
    nested_type = nested_type;
    name = name;
  }))

-- lfBClass; only the low 32 bits of the offset are kept
unfoldable pub base_row : ClassKind → Row PlainValue
base_row kind = do
  attributes ← u16
  base_class ← type_index
  place ← num
  gives (values.base_class (record {
    kind = kind;
    attributes = attributes;
    base_class = base_class;
    offset = low_32 place;
  }))

-- lfVBClass; only the low 32 bits of both offsets are kept
unfoldable pub virtual_base_row : Bool → Row PlainValue
virtual_base_row direct = do
  attributes ← u16
  base_class ← type_index
  base_pointer ← type_index
  place ← num
  entry ← num
  gives (values.virtual_base_class (record {
    direct = direct;
    attributes = attributes;
    base_class = base_class;
    base_pointer = base_pointer;
    base_pointer_offset = low_32 place;
    virtual_base_offset = low_32 entry;
  }))

-- lfVFuncTab, whose first word is ignored
unfoldable pub table_pointer_row : Row PlainValue
table_pointer_row = do
  word ← u16
  table ← type_index
  gives (values.virtual_function_table_pointer (record { table = table }))

-- lfProc
unfoldable pub procedure_row : Row PlainValue
procedure_row = do
  return_type ← some_type
  attributes ← u16
  parameter_count ← u16
  argument_list ← type_index
  gives (values.procedure (record {
    return_type = return_type;
    attributes = attributes;
    parameter_count = parameter_count;
    argument_list = argument_list;
  }))

-- lfMFunc
unfoldable pub member_function_row : Row PlainValue
member_function_row = do
  return_type ← type_index
  class_type ← type_index
  this_pointer_type ← some_type
  attributes ← u16
  parameter_count ← u16
  argument_list ← type_index
  this_adjustment ← u32
  gives (values.member_function (record {
    return_type = return_type;
    class_type = class_type;
    this_pointer_type = this_pointer_type;
    attributes = attributes;
    parameter_count = parameter_count;
    argument_list = argument_list;
    this_adjustment = this_adjustment;
  }))

-- lfMethod: all methods that share one name
unfoldable pub overloaded_method_row : ℕ → Row PlainValue
overloaded_method_row leaf = do
  count ← u16
  method_list ← type_index
  name ← text leaf
  gives (values.overloaded_method (record { count = count; method_list = method_list; name = name }))

-- lfOneMethod; the offset in the table of virtual functions is present only if the method introduces a
-- virtual function
unfoldable pub method_row : ℕ → Row PlainValue
method_row leaf = do
  attributes ← u16
  method_type ← type_index
  vtable_offset ← when (is_intro_virtual attributes) u32
  name ← text leaf
  gives (values.method (record {
    attributes = attributes;
    method_type = method_type;
    vtable_offset = vtable_offset;
    name = name;
  }))

-- mlMethod: a method in a list of methods, whose second word is ignored
unfoldable pub listed_method_row : Row MethodListEntry
listed_method_row = do
  attributes ← u16
  word ← u16
  method_type ← type_index
  vtable_offset ← when (is_intro_virtual attributes) u32
  gives (record {
    attributes = attributes;
    method_type = method_type;
    vtable_offset = vtable_offset;
  })

-- lfPointer; the class that it points into is present only if it points to a member or a method
unfoldable pub pointer_row : Row PlainValue
pointer_row = do
  underlying_type ← type_index
  attributes ← pointer_word
  containing_class ← when (pointer_to_member attributes) type_index
  gives (values.pointer (record {
    underlying_type = underlying_type;
    attributes = attributes;
    containing_class = containing_class;
  }))

-- lfModifier; its word has a bit for each qualifier
unfoldable pub modifier_row : Row PlainValue
modifier_row = do
  underlying_type ← type_index
  word ← u16
  gives (values.modifier (record {
    underlying_type = underlying_type;
    constant = is_bit_set word 0;
    volatile = is_bit_set word 1;
    unaligned = is_bit_set word 2;
  }))

-- lfBitfield
unfoldable pub bitfield_row : Row PlainValue
bitfield_row = do
  underlying_type ← type_index
  length ← u8
  position ← u8
  gives (values.bitfield (record { underlying_type = underlying_type; length = length; position = position }))

-- lfVTShape: a count of functions, and half a byte for each, in as many bytes as hold them
unfoldable pub table_shape_row : Row PlainValue
table_shape_row = do
  count ← u16
  descriptors ← times ((count + 1) / 2) u8
  gives (values.virtual_table_shape (record { count = count; descriptors = descriptors }))

-- lfIndex, behind LF_INDEX in a field list: two bytes of padding, whatever they are, and the index of the
-- list that continues this one
unfoldable pub continuation_row : Row TypeIndex
continuation_row = do
  padding ← u16
  index ← type_index
  gives index
