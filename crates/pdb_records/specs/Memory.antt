-- When parsing allocates memory: for the items of a list, and only once the first item is read. A count
-- that is larger than its record can hold takes no memory.
use Rattle.std.specs.Prelude.{◌⊎◌, ℕ, Bool, true, false, ◌==◌, List, Option, Some, None}
use Rattle.pdb_base.specs.declared.index.TypeIndex.{TypeIndex}
use Rattle.pdb_base.specs.Memory.{HasItem}
use Rattle.pdb_base.specs.Spelling.{Begins}
use Rattle.pdb_records.specs.Shape.{u16, Spells}
use Rattle.pdb_records.specs.Row.{Row, Assigns}
use Rattle.pdb_records.specs.ToEnd.{Sequence}
use Rattle.pdb_records.specs.Dimensions.{IsDimension}
use Rattle.pdb_values.specs.declared.method.MethodListEntry.{MethodListEntry}
use Rattle.pdb_records.specs.declared.leaf.Leaf.{Leaf}
use Rattle.pdb_records.specs.declared.leaf.Leaf.TheVariants.{Plain, ArgumentList, MethodList, Array}
use Rattle.pdb_values.specs.TypeValue.{TypeValue}
use Rattle.pdb_records.specs.Rows.{listed_method_row}
use Rattle.pdb_records.specs.Lists.{ArrayHead, arguments_row, array_row}
use Rattle.pdb_records.specs.Leaves.{leaf_of}
use Rattle.pdb_records.specs.Fields.{field, continues, field_list_leaf}
use Rattle.pdb_records.specs.Grammar.{IsEntry}
use Rattle.pdb_records.specs.Claims.{ClaimsMore}

-- ---- lists with an item

-- a list with as many indexes as its count claims, and at least one
abbrev pub HoldsIndexes : {A : Type 0} → Row (List A) → List ℕ → Type 0
HoldsIndexes {A} r bytes = (list : List A) × (rest : List ℕ) × Assigns r bytes list rest × HasItem list

-- the bytes begin with a method of a list of methods
abbrev pub HoldsMethod : List ℕ → Type 0
HoldsMethod bytes = (method : MethodListEntry) × (rest : List ℕ) × Assigns listed_method_row bytes method rest

-- the bytes begin with a dimension
abbrev pub HoldsDimension : List ℕ → Type 0
HoldsDimension bytes = (n : ℕ) × (rest : List ℕ) × IsDimension bytes n rest

-- the bytes begin with the row of an array, and then a dimension
abbrev pub HoldsArray : Bool → List ℕ → Type 0
HoldsArray strided bytes = (head : ArrayHead) × (mid : List ℕ) × Assigns (array_row strided) bytes head mid
    × HoldsDimension mid

-- the bytes behind a leaf hold an item of the record's list; most leaves have no list
abbrev pub HoldsItem : Leaf → List ℕ → Type 0
HoldsItem (Plain leaf) bytes = ⊥
HoldsItem ArgumentList bytes = HoldsIndexes arguments_row bytes
HoldsItem MethodList bytes = HoldsMethod bytes
HoldsItem (Array strided) bytes = HoldsArray strided bytes

-- the same for a leaf that a number may stand for; never, if it stands for none
abbrev pub HoldsItemOf : Option Leaf → List ℕ → Type 0
HoldsItemOf None bytes = ⊥
HoldsItemOf (Some leaf) bytes = HoldsItem leaf bytes

-- the same for the leaf of this number, which isn't that of a field list
abbrev pub HoldsItemBehind : ℕ → List ℕ → Type 0
HoldsItemBehind number = HoldsItemOf (leaf_of number)

-- a leaf, followed by an item of the record's list
abbrev pub RecordHoldsItem : List ℕ → Type 0
RecordHoldsItem bytes = (number : ℕ) × (mid : List ℕ) × Begins (Spells u16) bytes number mid
    × HoldsItemBehind number mid

-- the bytes begin with an entry of a field list that is a field
abbrev pub BeginsField : List ℕ → Type 0
BeginsField bytes = (value : TypeValue) × (rest : List ℕ) × IsEntry bytes (field value) rest

-- the bytes begin with an entry of a field list that names its continuation
abbrev pub IsContinuation : List ℕ → TypeIndex → List ℕ → Type 0
IsContinuation bytes index rest = IsEntry bytes (continues index) rest

-- The entries of a field list begin, maybe after some that only name a continuation, with a field, or
-- with the leaf of a record and an item of that record's list.
abbrev pub HoldsField : List ℕ → Type 0
HoldsField bytes = (indexes : List TypeIndex) × (mid : List ℕ) × Sequence IsContinuation bytes indexes mid
    × (BeginsField mid ⊎ RecordHoldsItem mid)

-- the same for what follows a leaf: the entries of a field list, or another record
abbrev pub NeedsMemoryOf : Bool → ℕ → List ℕ → Type 0
NeedsMemoryOf true number bytes = HoldsField bytes
NeedsMemoryOf false number bytes = HoldsItemBehind number bytes

-- A type record that holds an item of a list. Any other is read, or refused, without asking for memory.
abbrev pub NeedsMemory : List ℕ → Type 0
NeedsMemory bytes = (number : ℕ) × (mid : List ℕ) × Begins (Spells u16) bytes number mid
    × NeedsMemoryOf (number == field_list_leaf) number mid

-- ---- counts that claim too much

-- LF_ARGLIST
abbrev pub argument_list_leaf : ℕ
argument_list_leaf = 0x1201

-- an argument list whose count claims more than the bytes behind it hold, as a whole record or as the
-- first entry of a field list
abbrev pub IsFalseCount : List ℕ → Type 0
IsFalseCount bytes = ClaimsMore argument_list_leaf 4 bytes
    ⊎ ((mid : List ℕ) × Begins (Spells u16) bytes field_list_leaf mid × ClaimsMore argument_list_leaf 4 mid)
