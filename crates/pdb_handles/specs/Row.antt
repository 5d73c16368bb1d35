-- The contents of a type record, as a caller sees them: a row of numbers, of which each shape has some.
use Rattle.std.specs.Prelude.{ℕ, ◌+◌, ◌*◌, ◌==◌, ◌&&◌, nat_lt, if◌then◌else◌, Bool, true, false, is_some}
use Rattle.std.specs.Prelude.{unwrap_or, Option}
use Rattle.std.specs.Prelude.{Some, None}
use Rattle.std.specs.{Int.cast_signed, Int.cast_unsigned, Int.w64, Option.option_map}
use Rattle.pdb_base.specs.{declared.index.TypeIndex.TypeIndex, declared.variant.Variant.Variant}
use Rattle.pdb_base.specs.declared.variant.Variant.TheVariants as variants
use Rattle.pdb_values.specs.declared.class.ClassKind.{ClassKind}
use Rattle.pdb_values.specs.TypeValue.{TypeValue, PlainValue, plain}
use Rattle.pdb_values.specs.declared.class.ClassKind.TheVariants as kinds
use Rattle.pdb_values.specs.TypeValue as values
use Rattle.pdb_types.specs.Enumerator.{enumerator_value}
use Rattle.pdb_handles.specs.{declared.row.Numbers.Numbers, declared.row.Row.Row, Frame.flag}

-- the number of a kind of class
abbrev pub class_kind : ClassKind → ℕ
class_kind kinds.Class = 0
class_kind kinds.Struct = 1
class_kind kinds.Interface = 2

-- whether a number of any width can be below 0, its width in bytes, and the number in 64 bits, in two's complement if
-- it is below 0
abbrev pub value_numbers : Variant → Bool × ℕ × ℕ
value_numbers (variants.U8 n) = (false, 1, n)
value_numbers (variants.U16 n) = (false, 2, n)
value_numbers (variants.U32 n) = (false, 4, n)
value_numbers (variants.U64 n) = (false, 8, n)
value_numbers (variants.I8 n) = (true, 1, cast_unsigned w64 n)
value_numbers (variants.I16 n) = (true, 2, cast_unsigned w64 n)
value_numbers (variants.I32 n) = (true, 4, cast_unsigned w64 n)
value_numbers (variants.I64 n) = (true, 8, cast_unsigned w64 n)

-- the value of an enumerator with these numbers: whether it has a sign, its width in bytes, and its number in 64 bits
abbrev pub value_of : Bool → ℕ → ℕ → Variant
value_of is_signed width number = if is_signed then variants.I64 (cast_signed w64 number)
    else (if width == 1 && nat_lt number 256 then variants.U8 number else variants.U64 number)

-- the row of an enumerator, of which the value is a number of the type of an index, or any other row
abbrev pub typed_row : Row → ℕ → Row
typed_row row index =
    let typed = value_numbers (enumerator_value (value_of (row.kind == 1) row.count row.number) index) in
    if row.shape == 15 then record row { kind = flag typed.0; number = typed.2 } else row

-- the number of a type's index, if there is one
abbrev pub index_in : Option TypeIndex → Option ℕ
index_in index = option_map (λ index. index.0) index

-- no numbers
abbrev pub no_numbers : Numbers
no_numbers = record {
  kind = None;
  attributes = None;
  properties = None;
  count = None;
  type_index = None;
  second_index = None;
  third_index = None;
  list_index = None;
  extra = None;
  number = None;
}

-- the weight of a number's bit if the number is present, and else 0
abbrev pub bit : ℕ → Option ℕ → ℕ
bit weight number = weight * flag (is_some number)

-- the row of a shape and its numbers; a number that is absent is 0
unfoldable pub zeroed_row : ℕ → Numbers → Row
zeroed_row shape numbers = record {
  kind = unwrap_or numbers.kind 0;
  attributes = unwrap_or numbers.attributes 0;
  properties = unwrap_or numbers.properties 0;
  count = unwrap_or numbers.count 0;
  type_index = unwrap_or numbers.type_index 0;
  second_index = unwrap_or numbers.second_index 0;
  third_index = unwrap_or numbers.third_index 0;
  list_index = unwrap_or numbers.list_index 0;
  extra = unwrap_or numbers.extra 0;
  number = unwrap_or numbers.number 0;
  shape = shape;
  has = bit 1 numbers.kind + bit 2 numbers.attributes + bit 4 numbers.properties + bit 8 numbers.count
      + bit 16 numbers.type_index + bit 32 numbers.second_index + bit 64 numbers.third_index
      + bit 128 numbers.list_index + bit 256 numbers.extra + bit 512 numbers.number;
}

-- the numbers of what has attributes and a type
abbrev pub typed : ℕ → TypeIndex → Numbers
typed attributes index = record no_numbers { attributes = Some attributes; type_index = Some index.0 }

-- the numbers of what has properties and counts its fields
abbrev pub counted : ℕ → ℕ → Numbers
counted properties count = record no_numbers { properties = Some properties; count = Some count }

-- the row of a record without a list, or of a primitive type, which has no numbers
abbrev pub plain_row : PlainValue → Row
plain_row (values.primitive v) = zeroed_row 0 no_numbers
plain_row (values.class v) = zeroed_row 1 (record (counted v.properties v.count) {
  kind = Some (class_kind v.kind);
  second_index = index_in v.derived_from;
  third_index = index_in v.vtable_shape;
  list_index = index_in v.fields;
  number = Some v.size;
})
plain_row (values.member v) = zeroed_row 2 (record (typed v.attributes v.field_type) { number = Some v.offset })
plain_row (values.member_function v) = zeroed_row 3 (record (typed v.attributes v.return_type) {
  count = Some v.parameter_count;
  second_index = Some v.class_type.0;
  third_index = index_in v.this_pointer_type;
  list_index = Some v.argument_list.0;
  extra = Some v.this_adjustment;
})
plain_row (values.overloaded_method v) =
    zeroed_row 4 (record no_numbers { count = Some v.count; list_index = Some v.method_list.0 })
plain_row (values.method v) = zeroed_row 5 (record (typed v.attributes v.method_type) { extra = v.vtable_offset })
plain_row (values.static_member v) = zeroed_row 6 (typed v.attributes v.field_type)
plain_row (values.nested v) = zeroed_row 7 (typed v.attributes v.nested_type)
plain_row (values.base_class v) = zeroed_row 8
    (record (typed v.attributes v.base_class) { kind = Some (class_kind v.kind); number = Some v.offset })
plain_row (values.virtual_base_class v) = zeroed_row 9 (record (typed v.attributes v.base_class) {
  kind = Some (flag v.direct);
  second_index = Some v.base_pointer.0;
  number = Some v.base_pointer_offset;
  extra = Some v.virtual_base_offset;
})
plain_row (values.virtual_function_table_pointer v) = zeroed_row 10 (record no_numbers { type_index = Some v.table.0 })
plain_row (values.procedure v) = zeroed_row 11 (record no_numbers {
  attributes = Some v.attributes;
  count = Some v.parameter_count;
  type_index = index_in v.return_type;
  list_index = Some v.argument_list.0;
})
plain_row (values.pointer v) =
    zeroed_row 12 (record (typed v.attributes v.underlying_type) { second_index = index_in v.containing_class })
plain_row (values.modifier v) = zeroed_row 13 (record no_numbers {
  kind = Some (flag v.constant + 2 * flag v.volatile + 4 * flag v.unaligned);
  type_index = Some v.underlying_type.0;
})
plain_row (values.enumeration v) = zeroed_row 14
    (record (counted v.properties v.count) { type_index = Some v.underlying_type.0; list_index = Some v.fields.0 })
plain_row (values.enumerate v) = zeroed_row 15 (record no_numbers {
  kind = Some (flag (value_numbers v.value).0);
  attributes = Some v.attributes;
  count = Some (value_numbers v.value).1;
  number = Some (value_numbers v.value).2;
})
plain_row (values.union v) =
    zeroed_row 17 (record (counted v.properties v.count) { list_index = Some v.fields.0; number = Some v.size })
plain_row (values.bitfield v) = zeroed_row 18
    (record no_numbers { count = Some v.length; type_index = Some v.underlying_type.0; extra = Some v.position })
plain_row (values.virtual_table_shape v) = zeroed_row 22 (record no_numbers { count = Some v.count })

-- the row of a type
abbrev pub type_info : TypeValue → Row
type_info (plain value) = plain_row value
type_info (values.array v) = zeroed_row 16
    (record no_numbers { type_index = Some v.element_type.0; second_index = Some v.indexing_type.0; extra = v.stride })
type_info (values.field_list fields continuation) =
    zeroed_row 19 (record no_numbers { list_index = index_in continuation })
type_info (values.argument_list arguments) = zeroed_row 20 no_numbers
type_info (values.method_list methods) = zeroed_row 21 no_numbers
