-- The faults of a table of items in their order: the rules by which its header and the look-up of an index are refused,
-- and what is assigned to a stream or to an index where none refuses.
use Rattle.std.specs.Prelude.{◌≡◌, ◌≢◌, ◌⊎◌, ℕ, ◌+◌, ◌-◌, ◌<◌, ◌≤◌, List, [], ◌∷◌, ◌++◌, length, take, slice_get, codes}
use Rattle.std.specs.Prelude.{Option, Some, None, Ok}
use Rattle.std.specs.List.{flat_map}
use Rattle.std.specs.Int.{w32, cast_signed}
use Rattle.pdb_base.specs.declared.index.TypeIndex.{TypeIndex}
use Rattle.pdb_base.specs.Endian.{little_number}
use Rattle.pdb_base.specs.Reading.{number_in}
use Rattle.pdb_base.specs.Refusal.{Refusal, unexpected_eof, invalid_type_information_header, type_too_short}
use Rattle.pdb_base.specs.Refusal.{type_not_found, unimplemented_type_kind}
use Rattle.pdb_base.specs.Rules.{Rule, ◌⇒◌, FirstRefuses, rule_of}
use Rattle.pdb_values.specs.Primitive.{first_record}
use Rattle.pdb_values.specs.TypeValue.{TypeValue, Fields, field_list, values_in}
use Rattle.pdb_values.specs.TypeView.{primitive_of}
use Rattle.pdb_values.specs.IdValue.{IdValue}
use Rattle.pdb_records.specs.Grammar.{IsRecord, NoRecord}
use Rattle.pdb_records.specs.Ids.{IsId, NoId}
use Rattle.pdb_records.specs.Fields.{field_list_leaf}
use Rattle.pdb_tpi.specs.declared.header.Header.{Header}
use Rattle.pdb_tpi.specs.Header.{empty_header}
use Rattle.pdb_tpi.specs.Table.{Table}
use Rattle.pdb_tpi.specs.Walk.{IsWalk}
use Rattle.pdb_tpi.specs.Steps.{room, body}
use Rattle.pdb_tpi.specs.Record.{kind_of}
use Rattle.pdb_tpi.specs.Chain.{ContinuedList, not_below}

-- ---- the table in a stream

-- the header whose fields stand at fixed offsets of bytes
abbrev pub table_header_at : List ℕ → Header
table_header_at bytes = record {
  version = number_in 4 0 bytes;
  header_size = number_in 4 4 bytes;
  minimum_index = number_in 4 8 bytes;
  maximum_index = number_in 4 12 bytes;
  gprec_size = number_in 4 16 bytes;
  tpi_hash_stream = number_in 2 20 bytes;
  tpi_hash_pad_stream = number_in 2 22 bytes;
  hash_key_size = number_in 4 24 bytes;
  hash_bucket_size = number_in 4 28 bytes;
  hash_values = record { offset = cast_signed w32 (number_in 4 32 bytes); size = number_in 4 36 bytes };
  ti_off = record { offset = cast_signed w32 (number_in 4 40 bytes); size = number_in 4 44 bytes };
  hash_adj = record { offset = cast_signed w32 (number_in 4 48 bytes); size = number_in 4 52 bytes };
}

-- the table in a stream; one without bytes has a header in which every field is 0
abbrev pub table_in : List ℕ → Table
table_in [] = record { bytes = []; header = empty_header }
table_in (byte ∷ bytes) = record { bytes = byte ∷ bytes; header = table_header_at (byte ∷ bytes) }

-- the rules of a table with these bytes and this header
abbrev pub table_header_rules : List ℕ → Header → List Rule
table_header_rules bytes header =
    (length bytes < 56 ⇒ unexpected_eof)
    ∷ (header.header_size < 56 ⇒ invalid_type_information_header (codes "header size is impossibly small"))
    ∷ (1024 < header.header_size ⇒ invalid_type_information_header (codes "header size is unreasonably large"))
    ∷ (length bytes < header.header_size ⇒ unexpected_eof)
    ∷ (header.minimum_index < 4096 ⇒ invalid_type_information_header (codes "minimum type index is < 4096"))
    ∷ (header.maximum_index < header.minimum_index
    ⇒ invalid_type_information_header (codes "maximum type index is < minimum type index"))
    ∷ []

-- the rules of a stream that holds a table; one without bytes breaks none
abbrev pub table_rules : List ℕ → List Rule
table_rules [] = []
table_rules (byte ∷ bytes) = table_header_rules (byte ∷ bytes) (table_header_at (byte ∷ bytes))

-- ---- the item of an index

-- Item `n` of the walk over a table.
pub record IsInWalk (table : Table) (n : ℕ) (item : List ℕ) : Type 0 where
  pub items : List (List ℕ)
  pub rest : List ℕ
  pub walk : IsWalk (room table) (body table) items rest
  pub at : slice_get items n ≡ Some item

-- The item of an index. One below the minimum stands for a primitive type, which has no record: its item is the bytes
-- ff ff. Any other is counted from the minimum on, below the maximum.
abbrev pub IsItemOf : Table → ℕ → List ℕ → Type 0
IsItemOf table index item =
    ((index < table.header.minimum_index) × (item ≡ 0xff ∷ 0xff ∷ []))
    ⊎ ((table.header.minimum_index ≤ index) × (index < table.header.maximum_index)
    × IsInWalk table (index - table.header.minimum_index) item)

-- the rules of the bytes before which a walk stops: an item with room for its kind would be there, but its index would
-- be past the last one
abbrev pub rest_rules : List ℕ → List Rule
rest_rules rest =
    (length rest < 2 ⇒ unexpected_eof)
    ∷ (little_number 2 (take 2 rest) < 2 ⇒ type_too_short)
    ∷ (length rest < 2 + little_number 2 (take 2 rest) ⇒ unexpected_eof)
    ∷ (Unit {0} ⇒ type_not_found 0xffffffff)
    ∷ []

-- The walk over a table stops before item `n`, with the first fault of the bytes that are left.
pub record StopsBefore (table : Table) (n : ℕ) (refusal : Refusal) : Type 0 where
  pub items : List (List ℕ)
  pub rest : List ℕ
  pub walk : IsWalk (room table) (body table) items rest
  pub short : length items ≤ n
  pub fault : FirstRefuses (rest_rules rest) refusal

-- the rules of the look-up of an index: it is below the maximum, and the walk reaches its item
abbrev pub item_rules : Table → ℕ → List Rule
item_rules table index =
    ((table.header.minimum_index ≤ index) × (table.header.maximum_index ≤ index) ⇒ type_not_found index)
    ∷ (λ refusal. (table.header.minimum_index ≤ index)
    × StopsBefore table (index - table.header.minimum_index) refusal)
    ∷ []

-- ---- what the item says

-- The type of an index with this item: below 0x1000 a primitive type, and otherwise what the grammar assigns to the
-- item, whatever is left behind it.
abbrev pub IsTypeOf : ℕ → List ℕ → TypeValue → Type 0
IsTypeOf index item value =
    ((index < first_record) × (primitive_of index ≡ Ok value))
    ⊎ ((first_record ≤ index) × ((rest : List ℕ) × IsRecord item value rest))

-- the rules of a type: its index stands for a primitive type, or its item has a record's value
abbrev pub type_rules : ℕ → List ℕ → List Rule
type_rules index item =
    ((index < first_record) × ((value : TypeValue) → primitive_of index ≢ Ok value) ⇒ type_not_found index)
    ∷ (λ refusal. (first_record ≤ index) × NoRecord item refusal)
    ∷ []

-- the id with this item: what the grammar assigns to the item, whatever is left behind it
abbrev pub IsIdOf : List ℕ → IdValue → Type 0
IsIdOf item value = (rest : List ℕ) × IsId item value rest

-- the rule of an id: its item has a record's value
abbrev pub id_rules : List ℕ → List Rule
id_rules item = NoId item ∷ []

-- ---- lists of fields

-- The list of fields of an index: its item is of the kind LF_FIELDLIST, and says the fields and the index of the list
-- that continues it, if there is one.
abbrev pub IsListOf : Table → ℕ → ContinuedList → Type 0
IsListOf table index list =
    (item : List ℕ) × IsItemOf table index item
    × ((value : TypeValue) × ((kind_of item ≡ field_list_leaf) × IsTypeOf index item value)
    × ((fields : Fields) × (value ≡ field_list fields list.continuation) × (list.fields ≡ values_in fields)))

-- the rules of a list of fields: its item is there, is of this kind, has a value, and that is a list
abbrev pub list_rules : Table → ℕ → List Rule
list_rules table index =
    FirstRefuses (item_rules table index)
    ∷ rule_of (IsItemOf table index) (λ item.
    (kind_of item ≢ field_list_leaf ⇒ unimplemented_type_kind (kind_of item))
    ∷ FirstRefuses (type_rules index item)
    ∷ rule_of (IsTypeOf index item) (λ value.
    (((fields : Fields) (continuation : Option TypeIndex) → value ≢ field_list fields continuation)
    ⇒ unimplemented_type_kind (kind_of item)) ∷ [])
    ∷ [])
    ∷ []

-- Lists lead from one index to another: each is continued by the next, whose index is below its own.
abbrev pub LeadTo : Table → ℕ → List ContinuedList → ℕ → Type 0
LeadTo table from [] to = from ≡ to
LeadTo table from (list ∷ lists) to = IsListOf table from list
    × ((next : TypeIndex) × (list.continuation ≡ Some next) × (next.0 < from) × LeadTo table next.0 lists to)

-- Lists form the chain of an index: they lead from it to a last one, which has no continuation.
abbrev pub AreChained : Table → ℕ → List ContinuedList → Type 0
AreChained table index lists = (before : List ContinuedList) × (at : ℕ) × (last : ContinuedList)
    × (lists ≡ before ++ last ∷ []) × LeadTo table index before at × IsListOf table at last × (last.continuation ≡ None)

-- Lists lead from an index to one at which the chain breaks: that has no list, or one whose continuation isn't
-- below it.
abbrev pub ChainBreaks : Table → ℕ → Rule
ChainBreaks table index refusal = (before : List ContinuedList) × (at : ℕ) × LeadTo table index before at
    × (FirstRefuses (list_rules table at) refusal
    ⊎ ((list : ContinuedList) × (next : TypeIndex) × IsListOf table at list × (list.continuation ≡ Some next)
    × (at ≤ next.0) × (refusal ≡ not_below)))

-- The fields of an index: those of the lists in its chain, joined in order.
abbrev pub AreFieldsOf : Table → ℕ → List TypeValue → Type 0
AreFieldsOf table index fields = (lists : List ContinuedList) × AreChained table index lists
    × (fields ≡ flat_map (λ list. list.fields) lists)
