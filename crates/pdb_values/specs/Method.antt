-- Methods of a class as values, in which each name is the list of its bytes.
use Rattle.std.specs.Prelude.{ℕ, List, Option}
use Rattle.pdb_base.specs.declared.index.TypeIndex.{TypeIndex}
use Rattle.pdb_values.specs.declared.method.OverloadedMethodType.{OverloadedMethodType}
use Rattle.pdb_values.specs.declared.method.MethodType.{MethodType}
use Rattle.pdb_values.specs.declared.method.MethodList.{MethodList}
use Rattle.pdb_values.specs.declared.method.MethodListEntry.{MethodListEntry}
use Rattle.pdb_values.specs.Text.{text_bytes}

-- overloaded methods: the methods of a class that share one name
pub record OverloadedMethodValue : Type 0 where
  pub count : ℕ
  pub method_list : TypeIndex
  pub name : List ℕ

-- a method that shares its name with no other
pub record MethodValue : Type 0 where
  pub attributes : ℕ
  pub method_type : TypeIndex
  pub vtable_offset : Option ℕ
  pub name : List ℕ

-- the value of an `OverloadedMethodType`
abbrev pub overloaded_method_value : OverloadedMethodType → OverloadedMethodValue
overloaded_method_value type = record {
  count = type.count;
  method_list = type.method_list;
  name =
      text_bytes type.name;
}

-- the value of a `MethodType`
abbrev pub method_value : MethodType → MethodValue
method_value type = record {
  attributes = type.attributes;
  method_type = type.method_type;
  vtable_offset = type.vtable_offset;
  name = text_bytes type.name;
}

-- the methods in a `MethodList`, in order
abbrev pub listed_methods : MethodList → List MethodListEntry
listed_methods list = list.methods.items
