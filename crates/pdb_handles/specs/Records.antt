-- What the record of a type or of an id says, as a caller sees it: its row, its name and its lists.
use Rattle.std.specs.Prelude.{ℕ, if◌then◌else◌, List, map, Option, Some, None, Ok}
use Rattle.std.specs.Option.{option_map}
use Rattle.pdb_base.specs.{Answer.Answer, Answer.◌>>=◌, declared.index.IdIndex.IdIndex}
use Rattle.pdb_values.specs.TypeValue.{TypeValue, argument_list, name_of_type, plain}
use Rattle.pdb_values.specs.declared.method.MethodListEntry.{MethodListEntry}
use Rattle.pdb_values.specs.declared.source_id.UserDefinedTypeSourceFileRef.{UserDefinedTypeSourceFileRef}
use Rattle.pdb_values.specs.IdValue.{IdValue, PlainIdValue, id_name, id_value, plain as plain_id}
use Rattle.pdb_values.specs.TypeView.{type_value}
use Rattle.pdb_values.specs.TypeValue as values
use Rattle.pdb_values.specs.IdValue as ids
use Rattle.pdb_values.specs.declared.source_id.UserDefinedTypeSourceFileRef.TheVariants as files
use Rattle.pdb_tpi.specs.{Finder.item_of, Record.type_of, Record.id_of}
use Rattle.pdb_handles.specs.{declared.content.Records.Records as Held, declared.records.Said.Said}
use Rattle.pdb_handles.specs.declared.records.Said.TheVariants as saids
use Rattle.pdb_handles.specs.Row.{no_numbers, type_info, typed, zeroed_row}
use Rattle.pdb_handles.specs.{declared.row.Row.Row, declared.row.Numbers.Numbers}

-- what a record says of a type or of an id
pub data SaidValue : Type 0 where
  of_type : TypeValue → SaidValue
  of_id : IdValue → SaidValue

abbrev pub said_view : Said → SaidValue
said_view (saids.Type value) = of_type (type_value value)
said_view (saids.Id value) = of_id (id_value value)

-- what the type or the id of an index is
abbrev pub value_at : Held → ℕ → Answer SaidValue
value_at records index = item_of records.types.table index >>= λ item.
    if records.are_ids
    then (id_of item >>= λ value. Ok (of_id value))
    else (type_of index item >>= λ value. Ok (of_type value))

-- what is said of it
abbrev pub said_of : {A : Type 0} → (SaidValue → A) → Held → ℕ → Answer A
said_of says records index = value_at records index >>= λ value. Ok (says value)

-- the name of a type, or of an id that is a function, a method or a text
abbrev pub said_name : SaidValue → Option (List ℕ)
said_name (of_type value) = name_of_type value
said_name (of_id value) = id_name value

-- the name that tells a class, a union or an enumeration from others of its name, if it has one
abbrev pub said_unique_name : SaidValue → Option (List ℕ)
said_unique_name (of_type (plain (values.class v))) = v.unique_name
said_unique_name (of_type (plain (values.union v))) = v.unique_name
said_unique_name (of_type (plain (values.enumeration v))) = v.unique_name
said_unique_name value = None

-- the numbers in a list: the types of arguments; the size of an array in bytes up to each dimension, the innermost
-- first, each including those before it; or the ids in the build information of a module or of the parts of a text
abbrev pub said_numbers : SaidValue → Option (List ℕ)
said_numbers (of_type (argument_list arguments)) = Some (map (λ index. index.0) arguments)
said_numbers (of_type (values.array v)) = Some v.dimensions
said_numbers (of_id (ids.build_info list)) = Some (map (λ index. index.0) list)
said_numbers (of_id (ids.string_list list)) = Some (map (λ index. index.0) list)
said_numbers value = None

-- a method of a list for the caller: like a method that isn't in a list, but without a name
abbrev pub method_info : MethodListEntry → Row
method_info method =
    zeroed_row 5 (record (typed method.attributes method.method_type) { extra = method.vtable_offset })

-- the methods in a list of methods
abbrev pub said_methods : SaidValue → Option (List Row)
said_methods (of_type (values.method_list methods)) = Some (map method_info methods)
said_methods value = None

-- the number of an id's index, if there is one
abbrev pub id_number : Option IdIndex → Option ℕ
id_number index = option_map (λ index. index.0) index

-- the numbers of the place where a type is declared: the id of a file's name, or a module and the offset
-- of the name in the string table
abbrev pub source_numbers : ℕ → ℕ → UserDefinedTypeSourceFileRef → Numbers
source_numbers type line (files.Local file) =
    record no_numbers { type_index = Some type; second_index = Some file.0; extra = Some line }
source_numbers type line (files.Remote unit place) =
    record no_numbers { type_index = Some type; third_index = Some unit; number = Some place; extra = Some line }

-- the row of an id that is not a list
abbrev pub plain_row : PlainIdValue → Row
plain_row (ids.function v) =
    zeroed_row 32 (record no_numbers { type_index = Some v.function_type.0; second_index = id_number v.scope })
plain_row (ids.member_function v) =
    zeroed_row 33 (record no_numbers { type_index = Some v.function_type.0; third_index = Some v.parent.0 })
plain_row (ids.string v) = zeroed_row 36 (record no_numbers { list_index = id_number v.substrings })
plain_row (ids.user_defined_type_source v) = zeroed_row 37 (source_numbers v.udt.0 v.line v.source_file)

-- the row of an id
abbrev pub id_info : IdValue → Row
id_info (plain_id value) = plain_row value
id_info (ids.build_info list) = zeroed_row 34 no_numbers
id_info (ids.string_list list) = zeroed_row 35 no_numbers

-- the row of a type or of an id
abbrev pub said_row : SaidValue → Row
said_row (of_type value) = type_info value
said_row (of_id value) = id_info value
