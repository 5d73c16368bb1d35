-- The contents of an id record as a value, independent of where its bytes are stored: a name is the list
-- of its bytes, and a list is the list of its items.
use Rattle.std.specs.Prelude.{ℕ, List, Option, Some, None}
use Rattle.pdb_base.specs.declared.index.TypeIndex.{TypeIndex}
use Rattle.pdb_base.specs.declared.index.IdIndex.{IdIndex}
use Rattle.pdb_values.specs.declared.function_id.FunctionId.{FunctionId}
use Rattle.pdb_values.specs.declared.function_id.MemberFunctionId.{MemberFunctionId}
use Rattle.pdb_values.specs.declared.list_id.BuildInfoId.{BuildInfoId}
use Rattle.pdb_values.specs.declared.list_id.StringListId.{StringListId}
use Rattle.pdb_values.specs.declared.list_id.StringId.{StringId}
use Rattle.pdb_values.specs.declared.source_id.UserDefinedTypeSourceId.{UserDefinedTypeSourceId}
use Rattle.pdb_values.specs.declared.id_data.IdData.{IdData}
use Rattle.pdb_values.specs.declared.id_data.IdData.TheVariants as ids
use Rattle.pdb_values.specs.Text.{text_bytes}

-- a function
pub record FunctionValue : Type 0 where
  pub scope : Option IdIndex
  pub function_type : TypeIndex
  pub name : List ℕ

-- a method
pub record MemberFunctionValue : Type 0 where
  pub parent : TypeIndex
  pub function_type : TypeIndex
  pub name : List ℕ

-- a string
pub record StringValue : Type 0 where
  pub substrings : Option IdIndex
  pub name : List ℕ

-- the contents of an id record that is not a list
pub data PlainIdValue : Type 0 where
  function : FunctionValue → PlainIdValue
  member_function : MemberFunctionValue → PlainIdValue
  string : StringValue → PlainIdValue
  user_defined_type_source : UserDefinedTypeSourceId → PlainIdValue

-- the contents of an id record: of one that is not a list, or the items of the list that it is
pub data IdValue : Type 0 where
  plain : PlainIdValue → IdValue
  build_info : List IdIndex → IdValue
  string_list : List TypeIndex → IdValue

-- the value of a `FunctionId`
abbrev pub function_value : FunctionId → FunctionValue
function_value id = record { scope = id.scope; function_type = id.function_type; name = text_bytes id.name }

-- the value of a `MemberFunctionId`
abbrev pub member_function_value : MemberFunctionId → MemberFunctionValue
member_function_value id = record { parent = id.parent; function_type = id.function_type; name = text_bytes id.name }

-- the value of a `StringId`
abbrev pub string_value : StringId → StringValue
string_value id = record { substrings = id.substrings; name = text_bytes id.name }

-- the ids in a build info record: those of what a module was built with
abbrev pub build_arguments : BuildInfoId → List IdIndex
build_arguments id = id.arguments.items

-- the indexes in a string list record: those of the parts of a text
abbrev pub text_parts : StringListId → List TypeIndex
text_parts id = id.substrings.items

-- the value of an `IdData`
abbrev pub id_value : IdData → IdValue
id_value (ids.Function id) = plain (function (function_value id))
id_value (ids.MemberFunction id) = plain (member_function (member_function_value id))
id_value (ids.BuildInfo list) = build_info (build_arguments list)
id_value (ids.StringList list) = string_list (text_parts list)
id_value (ids.String id) = plain (string (string_value id))
id_value (ids.UserDefinedTypeSource id) = plain (user_defined_type_source id)

-- the name of a function, a method or a string; any other id has none
abbrev pub plain_id_name : PlainIdValue → Option (List ℕ)
plain_id_name (function value) = Some value.name
plain_id_name (member_function value) = Some value.name
plain_id_name (string value) = Some value.name
plain_id_name value = None

-- the name of any id; a list has none
abbrev pub id_name : IdValue → Option (List ℕ)
id_name (plain value) = plain_id_name value
id_name value = None
