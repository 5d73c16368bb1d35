-- The definition of a type: the record of a class, a union or an enumeration that isn't a forward reference.
use Rattle.std.specs.Prelude.{ℕ, Bool, false, ◌&&◌, not, if◌then◌else◌, List, [], ◌∷◌, Option, Some, None, Ok, Err}
use Rattle.std.specs.List.{filter, find, range_with_len}
use Rattle.std.specs.Option.{option_map_or}
use Rattle.pdb_base.specs.Answer.{Answer, ◌>>=◌}
use Rattle.pdb_values.specs.TypeValue.{TypeValue}
use Rattle.pdb_tpi.specs.Steps.{walk_rest}
use Rattle.pdb_tpi.specs.Table.{Table, count_in_header}
use Rattle.pdb_tpi.specs.Walk.{fault_of}
use Rattle.pdb_types.specs.Declaration.{Declared, TypeName, declaration_of, is_forward, bears, sought_name}
use Rattle.pdb_types.specs.TypeAt.{type_at}

-- whether what a type says of its name makes it the definition of a name
abbrev pub declares : TypeName → Declared → Bool
declares name declared = not (is_forward declared) && bears name declared

-- whether a type is a definition of a name: a class, a union or an enumeration that has the name and isn't a
-- forward reference; a record that can't be read defines nothing
abbrev pub defines : TypeName → Answer TypeValue → Bool
defines name (Ok value) = option_map_or (declares name) (declaration_of value) false
defines name (Err refusal) = false

-- the indexes that the header of a table counts
abbrev pub indexes_of : Table → List ℕ
indexes_of table = range_with_len table.header.minimum_index (count_in_header table)

-- the first index of a table whose type is a definition of a name
unfoldable pub first_definition : Table → TypeName → Option ℕ
first_definition table name = find (λ index. defines name (type_at table index)) (indexes_of table)

-- all indexes of a table whose types are definitions of a name, in increasing order
unfoldable pub all_definitions : Table → TypeName → List ℕ
all_definitions table name = filter (λ index. defines name (type_at table index)) (indexes_of table)

-- The definition of a type that says this of its name: the type itself if it isn't a forward reference. For a
-- forward reference it is the first definition of its unique name, or of its name if it has no unique name.
abbrev pub declared_definition : Table → ℕ → Declared → Option ℕ
declared_definition table index declared =
    if is_forward declared then first_definition table (sought_name declared) else Some index

-- the definition of the type of an index that is this one, if it is a class, a union or an enumeration and has
-- a definition
abbrev pub definition_by : Table → ℕ → TypeValue → Option ℕ
definition_by table index value = option_map_or (declared_definition table index) (declaration_of value) None

-- the definition of the type of an index, if there is one
unfoldable pub definition_of : Table → ℕ → Answer (Option ℕ)
definition_of table index = type_at table index >>= λ value. Ok (definition_by table index value)

-- what is made of a table's items if no byte is left behind them, and else the fault at which the walk over
-- them stops
abbrev pub if_none_left : {A : Type 0} → A → List ℕ → Answer A
if_none_left x [] = Ok x
if_none_left x (byte ∷ bytes) = Err (fault_of (byte ∷ bytes))

-- a table whose items end where its bytes do, or else the fault at which the walk over them stops
unfoldable pub whole_table : Table → Answer Table
whole_table table = if_none_left table (walk_rest table)
