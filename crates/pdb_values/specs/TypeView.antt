-- The values of the code's types (`TypeData`), independent of where their bytes are stored.
use Rattle.std.specs.Prelude.{ℕ, List, map, Ok}
use Rattle.pdb_base.specs.Answer.{Answer, ◌>>=◌}
use Rattle.pdb_values.specs.declared.type_data.TypeData.{TypeData, fold-TypeData}
use Rattle.pdb_values.specs.declared.type_data.TypeData.TheOpen.{TypeData-F, FieldList-F}
use Rattle.pdb_values.specs.declared.field_list.FieldList.{FieldList}
use Rattle.pdb_values.specs.Class.{class_value}
use Rattle.pdb_values.specs.Member.{member_value, static_member_value, nested_value}
use Rattle.pdb_values.specs.Method.{overloaded_method_value, method_value, listed_methods}
use Rattle.pdb_values.specs.Function.{argument_types}
use Rattle.pdb_values.specs.Enumeration.{enumeration_value, enumerate_value}
use Rattle.pdb_values.specs.Array.{array_value}
use Rattle.pdb_values.specs.Union.{union_value}
use Rattle.pdb_values.specs.TableShape.{table_shape_value}
use Rattle.pdb_values.specs.TypeValue as values
use Rattle.pdb_values.specs.TypeValue.{TypeValue, Fields, plain, as_fields}
use Rattle.pdb_values.specs.Primitive.{primitive_type}

-- the value of one level of a `TypeData`, in which the fields of a field list are values already
abbrev pub view_step : TypeData-F TypeValue TypeValue → TypeValue
view_step (TypeData-F.Primitive type) = plain (values.primitive type)
view_step (TypeData-F.Class type) = plain (values.class (class_value type))
view_step (TypeData-F.Member type) = plain (values.member (member_value type))
view_step (TypeData-F.MemberFunction type) = plain (values.member_function type)
view_step (TypeData-F.OverloadedMethod type) = plain (values.overloaded_method (overloaded_method_value type))
view_step (TypeData-F.Method type) = plain (values.method (method_value type))
view_step (TypeData-F.StaticMember type) = plain (values.static_member (static_member_value type))
view_step (TypeData-F.Nested type) = plain (values.nested (nested_value type))
view_step (TypeData-F.BaseClass type) = plain (values.base_class type)
view_step (TypeData-F.VirtualBaseClass type) = plain (values.virtual_base_class type)
view_step (TypeData-F.VirtualFunctionTablePointer type) = plain (values.virtual_function_table_pointer type)
view_step (TypeData-F.Procedure type) = plain (values.procedure type)
view_step (TypeData-F.Pointer type) = plain (values.pointer type)
view_step (TypeData-F.Modifier type) = plain (values.modifier type)
view_step (TypeData-F.Enumeration type) = plain (values.enumeration (enumeration_value type))
view_step (TypeData-F.Enumerate type) = plain (values.enumerate (enumerate_value type))
view_step (TypeData-F.Array type) = values.array (array_value type)
view_step (TypeData-F.Union type) = plain (values.union (union_value type))
view_step (TypeData-F.Bitfield type) = plain (values.bitfield type)
view_step (TypeData-F.FieldList list) = list
view_step (TypeData-F.ArgumentList list) = values.argument_list (argument_types list)
view_step (TypeData-F.MethodList list) = values.method_list (listed_methods list)
view_step (TypeData-F.VirtualTableShape type) = plain (values.virtual_table_shape (table_shape_value type))

-- the value of a field list whose fields are values already
abbrev pub list_step : FieldList-F TypeValue TypeValue → TypeValue
list_step list = values.field_list (as_fields list.fields.items) list.continuation

-- the value of a `TypeData`
abbrev pub type_value : TypeData → TypeValue
type_value = fold-TypeData TypeValue TypeValue view_step list_step

-- the values of the fields of a field list
abbrev pub fields_value : List TypeData → Fields
fields_value types = as_fields (map type_value types)

-- the value of a `FieldList`
abbrev pub field_list_value : FieldList → TypeValue
field_list_value list = values.field_list (fields_value list.fields.items) list.continuation

-- the primitive type that an index below 0x1000 stands for
unfoldable pub primitive_of : ℕ → Answer TypeValue
primitive_of index = primitive_type index >>= λ type. Ok (plain (values.primitive type))
