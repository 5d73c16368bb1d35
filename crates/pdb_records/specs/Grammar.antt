-- What the grammar of type records assigns to bytes, and the refusals of bytes to which it assigns
-- nothing.
use Rattle.std.specs.Prelude.{◌≡◌, ◌≢◌, ◌⊎◌, ℕ, Bool, true, false, ◌==◌, List, []}
use Rattle.pdb_base.specs.declared.index.TypeIndex.{TypeIndex}
use Rattle.pdb_base.specs.Refusal.{Refusal, unexpected_eof}
use Rattle.pdb_base.specs.Spelling.{Begins}
use Rattle.pdb_records.specs.Shape.{u16, Spells}
use Rattle.pdb_records.specs.Fault.{Refuses}
use Rattle.pdb_records.specs.Row.{Assigns, Stops}
use Rattle.pdb_records.specs.ToEnd.{Fills, FailsBehind}
use Rattle.pdb_records.specs.Padding.{IsPadded, IsPaddedShort}
use Rattle.pdb_records.specs.Dimensions.{AreDimensions, NoDimensions}
use Rattle.pdb_records.specs.declared.leaf.Leaf.{Leaf}
use Rattle.pdb_records.specs.declared.leaf.Leaf.TheVariants.{Plain, ArgumentList, MethodList, Array}
use Rattle.pdb_values.specs.TypeValue.{PlainValue, TypeValue}
use Rattle.pdb_values.specs.Array.{ArrayValue}
use Rattle.pdb_values.specs.TypeValue as values
use Rattle.pdb_records.specs.Rows.{listed_method_row, continuation_row}
use Rattle.pdb_records.specs.Lists.{arguments_row, array_row}
use Rattle.pdb_records.specs.Arrays.{array_of}
use Rattle.pdb_records.specs.Known.{IsOfKnownLeaf, NoKnown}
use Rattle.pdb_records.specs.Leaves.{leaf_of, row_of}
use Rattle.pdb_records.specs.Fields.{Entry, field, continues, field_list_of, continuation_leaf, field_list_leaf}

-- ---- arrays

-- dimensions, then padding, and then the end of the bytes
abbrev pub AreLastDimensions : List ℕ → List ℕ → List ℕ → Type 0
AreLastDimensions bytes ns rest = (mid : List ℕ) × (end : List ℕ) × AreDimensions bytes ns mid × IsPadded mid tt end
    × (end ≡ []) × (rest ≡ [])

-- the dimensions are refused, or the padding behind them, or the bytes that are left behind that
abbrev pub NoLastDimensions : List ℕ → Refusal → Type 0
NoLastDimensions bytes refusal =
    NoDimensions bytes refusal
    ⊎ ((ns : List ℕ) × (mid : List ℕ) × AreDimensions bytes ns mid
    × (IsPaddedShort mid refusal ⊎ ((end : List ℕ) × IsPadded mid tt end × (end ≢ [])
    × (refusal ≡ unexpected_eof))))

-- an array
abbrev pub IsArray : Bool → List ℕ → ArrayValue → List ℕ → Type 0
IsArray strided bytes array rest = (head : _) × (mid : List ℕ) × Assigns (array_row strided) bytes head mid
    × ((ns : List ℕ) × AreLastDimensions mid ns rest × (array_of head ns ≡ array))

-- an array is refused for a fault in its row, or in its dimensions
abbrev pub NoArray : Bool → List ℕ → Refusal → Type 0
NoArray strided bytes refusal =
    Stops (array_row strided) bytes refusal
    ⊎ ((head : _) × (mid : List ℕ) × Assigns (array_row strided) bytes head mid × NoLastDimensions mid refusal)

-- ---- what follows a leaf

-- the contents of a record whose leaf has this number
abbrev pub IsData : ℕ → Leaf → List ℕ → TypeValue → List ℕ → Type 0
IsData number (Plain leaf) bytes value rest = (plain : PlainValue) × Assigns (row_of number leaf) bytes plain rest
    × (values.plain plain ≡ value)
IsData number ArgumentList bytes value rest = (list : List TypeIndex) × Assigns arguments_row bytes list rest
    × (values.argument_list list ≡ value)
IsData number MethodList bytes value rest = (list : _) × Fills (Assigns listed_method_row) bytes list rest
    × (values.method_list list ≡ value)
IsData number (Array strided) bytes value rest = (array : ArrayValue) × IsArray strided bytes array rest
    × (values.array array ≡ value)

-- why those contents are refused
abbrev pub NoData : ℕ → Leaf → List ℕ → Refusal → Type 0
NoData number (Plain leaf) bytes refusal = Stops (row_of number leaf) bytes refusal
NoData number ArgumentList bytes refusal = Stops arguments_row bytes refusal
NoData number MethodList bytes refusal = FailsBehind (Assigns listed_method_row) (Stops listed_method_row) bytes refusal
NoData number (Array strided) bytes refusal = NoArray strided bytes refusal

-- the contents of the record behind a leaf of this number, other than a field list
abbrev pub IsBehind : ℕ → List ℕ → TypeValue → List ℕ → Type 0
IsBehind number = IsOfKnownLeaf (IsData number) (leaf_of number)

-- A leaf without a record is refused with its number, and a record with its first fault.
abbrev pub NoBehind : ℕ → List ℕ → Refusal → Type 0
NoBehind number = NoKnown number (NoData number) (leaf_of number)

-- ---- lists of fields

-- what follows the leaf of an entry: the index of the continuation, or a field
abbrev pub IsEntryOf : Bool → ℕ → List ℕ → Entry → List ℕ → Type 0
IsEntryOf true number bytes entry rest = (index : TypeIndex) × Assigns continuation_row bytes index rest
    × (continues index ≡ entry)
IsEntryOf false number bytes entry rest = (value : TypeValue) × IsBehind number bytes value rest × (field value ≡ entry)

-- why what follows the leaf of an entry is refused
abbrev pub NoEntryOf : Bool → ℕ → List ℕ → Refusal → Type 0
NoEntryOf true number bytes refusal = Stops continuation_row bytes refusal
NoEntryOf false number bytes refusal = NoBehind number bytes refusal

-- an entry: a leaf, what follows it, and padding
abbrev pub IsEntry : List ℕ → Entry → List ℕ → Type 0
IsEntry bytes entry rest =
    (number : ℕ) × (mid : List ℕ) × Begins (Spells u16) bytes number mid
    × ((behind : Entry) × (end : List ℕ) × IsEntryOf (number == continuation_leaf) number mid behind end
    × ((nothing : Unit {0}) × IsPadded end nothing rest × (behind ≡ entry)))

-- an entry is refused for a fault in its leaf, in what follows it, or in the padding
abbrev pub NoEntry : List ℕ → Refusal → Type 0
NoEntry bytes refusal =
    Refuses u16 bytes refusal
    ⊎ ((number : ℕ) × (mid : List ℕ) × Begins (Spells u16) bytes number mid
    × (NoEntryOf (number == continuation_leaf) number mid refusal
    ⊎ ((behind : Entry) × (end : List ℕ) × IsEntryOf (number == continuation_leaf) number mid behind end
    × IsPaddedShort end refusal)))

-- ---- whole records

-- what follows the leaf of a record: entries up to the end of the bytes, or another record
abbrev pub IsRecordOf : Bool → ℕ → List ℕ → TypeValue → List ℕ → Type 0
IsRecordOf true number bytes value rest = (entries : List Entry) × Fills IsEntry bytes entries rest
    × (field_list_of entries ≡ value)
IsRecordOf false number bytes value rest = IsBehind number bytes value rest

-- why what follows the leaf of a record is refused
abbrev pub NoRecordOf : Bool → ℕ → List ℕ → Refusal → Type 0
NoRecordOf true number bytes refusal = FailsBehind IsEntry NoEntry bytes refusal
NoRecordOf false number bytes refusal = NoBehind number bytes refusal

-- a type record: its leaf, and what follows it
abbrev pub IsRecord : List ℕ → TypeValue → List ℕ → Type 0
IsRecord bytes value rest = (number : ℕ) × (mid : List ℕ) × Begins (Spells u16) bytes number mid
    × IsRecordOf (number == field_list_leaf) number mid value rest

-- a type record is refused for a fault in its leaf, or in what follows it
abbrev pub NoRecord : List ℕ → Refusal → Type 0
NoRecord bytes refusal =
    Refuses u16 bytes refusal
    ⊎ ((number : ℕ) × (mid : List ℕ) × Begins (Spells u16) bytes number mid
    × NoRecordOf (number == field_list_leaf) number mid refusal)
