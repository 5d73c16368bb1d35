-- The leaves of id records, as Microsoft's cvinfo.h numbers them, the row of fields behind each, and what
-- the grammar of id records assigns to bytes.
use Rattle.std.specs.Prelude.{◌≡◌, ◌⊎◌, ℕ, ◌==◌, List, [], ◌∷◌, Option, Ok}
use Rattle.std.specs.Map.{lookup}
use Rattle.std.specs.Option.{option_map, option_or}
use Rattle.pdb_base.specs.declared.index.TypeIndex.{TypeIndex}
use Rattle.pdb_base.specs.declared.index.IdIndex.{IdIndex}
use Rattle.pdb_base.specs.Refusal.{Refusal}
use Rattle.pdb_base.specs.Answer.{Answer, ◌>>=◌}
use Rattle.pdb_base.specs.Reading.{number_at}
use Rattle.pdb_base.specs.Spelling.{Begins}
use Rattle.pdb_records.specs.Shape.{u16, Spells, as_id, as_type}
use Rattle.pdb_records.specs.Fault.{Refuses}
use Rattle.pdb_records.specs.Row.{Row, Assigns, Stops, row}
use Rattle.pdb_values.specs.IdValue.{PlainIdValue, IdValue}
use Rattle.pdb_values.specs.IdValue as values
use Rattle.pdb_records.specs.declared.id_leaf.IdLeaf.{IdLeaf}
use Rattle.pdb_records.specs.declared.id_leaf.IdLeaf.TheVariants.{Plain, BuildInfo, StringList}
use Rattle.pdb_records.specs.declared.parse.id_plain.PlainIdLeaf.{PlainIdLeaf}
use Rattle.pdb_records.specs.declared.parse.id_plain.PlainIdLeaf.TheVariants.{Function, MemberFunction, String, Source}
use Rattle.pdb_records.specs.declared.parse.id_plain.PlainIdLeaf.TheVariants.{RemoteSource}
use Rattle.pdb_records.specs.declared.parse.counted.CountWidth.TheVariants.{Bits16, Bits32}
use Rattle.pdb_records.specs.Counted.{counted_at}
use Rattle.pdb_records.specs.Known.{IsOfKnownLeaf, NoKnown, known_at}
use Rattle.pdb_records.specs.IdRows.{function_id_row, member_function_id_row, build_info_row, string_list_row}
use Rattle.pdb_records.specs.IdRows.{string_id_row, source_row, remote_source_row}

-- the leaves of id records without a list
abbrev pub plain_id_leaves : List (ℕ × PlainIdLeaf)
plain_id_leaves =
    (0x1601, Function)  -- LF_FUNC_ID
    ∷ (0x1602, MemberFunction)  -- LF_MFUNC_ID
    ∷ (0x1605, String)  -- LF_STRING_ID
    ∷ (0x1606, Source)  -- LF_UDT_SRC_LINE
    ∷ (0x1607, RemoteSource)  -- LF_UDT_MOD_SRC_LINE
    ∷ []

-- the kind of id record without a list that has the leaf of this number, if there is one
abbrev pub plain_id_leaf : ℕ → Option PlainIdLeaf
plain_id_leaf number = lookup (λ leaf. leaf == number) plain_id_leaves

-- the leaves of id records that are lists
abbrev pub id_list_leaves : List (ℕ × IdLeaf)
id_list_leaves =
    (0x1603, BuildInfo)  -- LF_BUILDINFO
    ∷ (0x1604, StringList)  -- LF_SUBSTR_LIST
    ∷ []

-- the kind of id record that has the leaf of this number, if there is one
abbrev pub id_leaf_of : ℕ → Option IdLeaf
id_leaf_of number = option_or (lookup (λ leaf. leaf == number) id_list_leaves) (option_map Plain (plain_id_leaf number))

-- the row of an id record without a list whose leaf has this number
abbrev pub id_row_of : ℕ → PlainIdLeaf → Row PlainIdValue
id_row_of number Function = function_id_row number
id_row_of number MemberFunction = member_function_id_row number
id_row_of number String = string_id_row number
id_row_of number Source = source_row
id_row_of number RemoteSource = remote_source_row

-- ---- what the grammar assigns

-- the contents of an id record whose leaf has this number
abbrev pub IsIdData : ℕ → IdLeaf → List ℕ → IdValue → List ℕ → Type 0
IsIdData number (Plain leaf) bytes value rest = (plain : PlainIdValue)
    × Assigns (id_row_of number leaf) bytes plain rest × (values.plain plain ≡ value)
IsIdData number BuildInfo bytes value rest = (list : List IdIndex) × Assigns build_info_row bytes list rest
    × (values.build_info list ≡ value)
IsIdData number StringList bytes value rest = (list : List TypeIndex) × Assigns string_list_row bytes list rest
    × (values.string_list list ≡ value)

-- why those contents are refused
abbrev pub NoIdData : ℕ → IdLeaf → List ℕ → Refusal → Type 0
NoIdData number (Plain leaf) bytes refusal = Stops (id_row_of number leaf) bytes refusal
NoIdData number BuildInfo bytes refusal = Stops build_info_row bytes refusal
NoIdData number StringList bytes refusal = Stops string_list_row bytes refusal

-- the contents of the id record behind a leaf of this number
abbrev pub IsBehindId : ℕ → List ℕ → IdValue → List ℕ → Type 0
IsBehindId number = IsOfKnownLeaf (IsIdData number) (id_leaf_of number)

-- A leaf without a record is refused with its number, and a record with its first fault.
abbrev pub NoBehindId : ℕ → List ℕ → Refusal → Type 0
NoBehindId number = NoKnown number (NoIdData number) (id_leaf_of number)

-- an id record: its leaf, and what follows it
abbrev pub IsId : List ℕ → IdValue → List ℕ → Type 0
IsId bytes value rest = (number : ℕ) × (mid : List ℕ) × Begins (Spells u16) bytes number mid
    × IsBehindId number mid value rest

-- an id record is refused for a fault in its leaf, or in what follows it
abbrev pub NoId : List ℕ → Refusal → Type 0
NoId bytes refusal =
    Refuses u16 bytes refusal
    ⊎ ((number : ℕ) × (mid : List ℕ) × Begins (Spells u16) bytes number mid × NoBehindId number mid refusal)

-- ---- what is read

-- reads a row, and returns the id that it makes
abbrev pub plain_id_at : Row PlainIdValue → List ℕ → Answer (IdValue × List ℕ)
plain_id_at r bytes = row r bytes >>= λ value. Ok (values.plain value.0, value.1)

-- reads the contents of an id record whose leaf has this number
abbrev pub id_data_at : ℕ → IdLeaf → List ℕ → Answer (IdValue × List ℕ)
id_data_at number (Plain leaf) bytes = plain_id_at (id_row_of number leaf) bytes
id_data_at number BuildInfo bytes = counted_at Bits16 as_id bytes >>= λ list. Ok (values.build_info list.0, list.1)
id_data_at number StringList bytes = counted_at Bits32 as_type bytes >>= λ list. Ok (values.string_list list.0, list.1)

-- reads the id record behind a leaf; a leaf that has none is refused with its number
unfoldable pub behind_id_leaf : ℕ → List ℕ → Answer (IdValue × List ℕ)
behind_id_leaf number bytes = known_at number (id_data_at number) (id_leaf_of number) bytes

-- reads an id record
unfoldable pub id_at : List ℕ → Answer (IdValue × List ℕ)
id_at bytes = do
  number ← number_at 2 bytes
  behind_id_leaf number.0 number.1

-- the value of an id record, whatever is left behind it
unfoldable pub id_record : List ℕ → Answer IdValue
id_record bytes = id_at bytes >>= λ x. Ok x.0
