-- Which values hold a list with at least one item, so that a copy of them takes memory.
use Rattle.std.specs.Prelude.{⊤}
use Rattle.pdb_base.specs.Memory.{HasItem}
use Rattle.pdb_values.specs.TypeValue.{TypeValue, Fields, no_field, first_field}
use Rattle.pdb_values.specs.TypeValue as values
use Rattle.pdb_values.specs.IdValue.{IdValue}
use Rattle.pdb_values.specs.IdValue as ids

-- at least one field
abbrev pub HasField : Fields → Type 0
HasField no_field = ⊥
HasField (first_field value fields) = ⊤

-- a type that is, or holds, a list with at least one item
abbrev pub HasListItem : TypeValue → Type 0
HasListItem (values.array array) = HasItem array.dimensions
HasListItem (values.field_list fields continuation) = HasField fields
HasListItem (values.argument_list list) = HasItem list
HasListItem (values.method_list list) = HasItem list
HasListItem (values.plain value) = ⊥

-- an id that is a list with at least one item: a build info record or a string list record
abbrev pub HasIdListItem : IdValue → Type 0
HasIdListItem (ids.build_info list) = HasItem list
HasIdListItem (ids.string_list list) = HasItem list
HasIdListItem (ids.plain value) = ⊥
