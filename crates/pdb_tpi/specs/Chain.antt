-- Field lists (LF_FIELDLIST of Microsoft's cvinfo.h), and the chains that they form: an LF_INDEX in a
-- list names the list that continues it.
use Rattle.std.specs.Prelude.{◌≡◌, ◌⊎◌, ℕ, zero, suc, ◌<◌, ◌≤◌, ◌==◌, nat_lt, if◌then◌else◌, List, [], ◌∷◌, ◌++◌, map}
use Rattle.std.specs.Prelude.{codes, Option, Some, None, Ok, Err}
use Rattle.std.specs.List.{flat_map}
use Rattle.pdb_base.specs.declared.index.TypeIndex.{TypeIndex}
use Rattle.pdb_base.specs.Refusal.{Refusal, unimplemented_type_kind, unimplemented_feature}
use Rattle.pdb_base.specs.Answer.{Answer, ◌>>=◌, ok_if}
use Rattle.pdb_values.specs.declared.field_list.FieldList.{FieldList}
use Rattle.pdb_values.specs.TypeValue.{TypeValue, field_list, values_in}
use Rattle.pdb_values.specs.TypeView.{type_value}
use Rattle.pdb_records.specs.Fields.{field_list_leaf}
use Rattle.pdb_tpi.specs.Record.{kind_of, type_of}
pub mod Step

-- a look-up, which answers an index with the bytes of an item
abbrev pub LookUp : Type 0
LookUp = ℕ → Answer (List ℕ)

-- a field list, and the index of the list that continues it, if there is one
pub record ContinuedList : Type 0 where
  pub fields : List TypeValue
  pub continuation : Option TypeIndex

-- the value of a `FieldList`
abbrev pub listed_value : FieldList → ContinuedList
listed_value list = record { fields = map type_value list.fields.items; continuation = list.continuation }

-- the field list that a type is; any other type is refused with its kind
abbrev pub as_field_list : ℕ → TypeValue → Answer ContinuedList
as_field_list kind (field_list fields continuation) = Ok
    (record { fields = values_in fields; continuation = continuation })
as_field_list kind other = Err (unimplemented_type_kind kind)

-- The field list of an index. The first fault is that of the look-up, then that the item is of another
-- kind, then that of the record.
unfoldable pub list_of : LookUp → ℕ → Answer ContinuedList
list_of look index = do
  item ← look index
  is_list ← ok_if (kind_of item == field_list_leaf) (unimplemented_type_kind (kind_of item))
  value ← type_of index item
  as_field_list (kind_of item) value

-- the refusal of a list whose continuation doesn't have an index below its own
abbrev pub not_below : Refusal
not_below = unimplemented_feature (codes "field list continuation not below its list")

-- ---- chains

-- Lists lead from one index to another: the first is the list of index `from`, each is continued by the
-- next, whose index is below its own, and the last is continued by the list of index `to`.
abbrev pub Lead : LookUp → ℕ → List ContinuedList → ℕ → Type 0
Lead look from [] to = from ≡ to
Lead look from (list ∷ lists) to = (list_of look from ≡ Ok list)
    × ((next : TypeIndex) × (list.continuation ≡ Some next) × (next.0 < from) × Lead look next.0 lists to)

-- Lists form the chain of an index: they lead from that index to a last list, which has no continuation.
pub record IsChain (look : LookUp) (index : ℕ) (lists : List ContinuedList) : Type 0 where
  pub before : List ContinuedList
  pub at : ℕ
  pub last : ContinuedList
  pub are : lists ≡ before ++ last ∷ []
  pub lead : Lead look index before at
  pub is_last : list_of look at ≡ Ok last
  pub ends : last.continuation ≡ None

-- the continuation of a list doesn't have an index below that of the list
pub record GoesUp (look : LookUp) (index : ℕ) : Type 0 where
  pub list : ContinuedList
  pub next : TypeIndex
  pub is : list_of look index ≡ Ok list
  pub goes_on : list.continuation ≡ Some next
  pub above : index ≤ next.0

-- The chain of an index breaks with a refusal: lists lead to an index whose list is refused with it, or
-- whose list has a continuation that isn't below it.
pub record Breaks (look : LookUp) (index : ℕ) (refusal : Refusal) : Type 0 where
  pub before : List ContinuedList
  pub at : ℕ
  pub lead : Lead look index before at
  pub why : (list_of look at ≡ Err refusal) ⊎ (GoesUp look at × (refusal ≡ not_below))

-- ---- the fields

-- fields, followed by others
abbrev pub in_front : List TypeValue → Answer (List TypeValue) → Answer (List TypeValue)
in_front fields others = others >>= λ more. Ok (fields ++ more)

-- the fields of the lists that continue the list of an index; `behind` gives the fields from a list on
-- whose index is below that one
abbrev pub fields_behind : (ℕ → Answer (List TypeValue)) → ℕ → Option TypeIndex → Answer (List TypeValue)
fields_behind behind index None = Ok []
fields_behind behind index (Some next) = if nat_lt next.0 index then behind next.0 else Err not_below

-- the fields of a list, followed by those of the lists that continue it
abbrev pub join_fields : (ℕ → Answer (List TypeValue)) → ℕ → ContinuedList → Answer (List TypeValue)
join_fields behind index list = in_front list.fields (fields_behind behind index list.continuation)

-- the same from an index on, along at most as many lists as the first argument
abbrev chain_along : ℕ → LookUp → ℕ → Answer (List TypeValue)
chain_along zero look index = Err not_below
chain_along (suc most) look index = list_of look index >>= join_fields (chain_along most look) index

-- The fields of the lists in the chain of an index, joined in order, or the refusal with which the chain
-- breaks. Each list has an index below that of the list before, so a chain has no more lists than there
-- are indexes up to its first.
unfoldable pub fields_of : LookUp → ℕ → Answer (List TypeValue)
fields_of look index = chain_along (suc index) look index

-- What `fields_of` answers, in terms of chains: the joined fields of the only chain, or the refusal with
-- which it breaks, and never both.
pub record IsChainAnswer (look : LookUp) (index : ℕ) : Type 0 where
  pub joined : (lists : List ContinuedList) → IsChain look index lists
      → fields_of look index ≡ Ok (flat_map (λ list. list.fields) lists)
  pub chained : (fields : List TypeValue) → fields_of look index ≡ Ok fields → (lists : List ContinuedList)
      × IsChain look index lists × (fields ≡ flat_map (λ list. list.fields) lists)
  pub one : (lists others : List ContinuedList) → IsChain look index lists → IsChain look index others → lists ≡ others
  pub refused : (refusal : Refusal) → Breaks look index refusal → fields_of look index ≡ Err refusal
  pub broken : (refusal : Refusal) → fields_of look index ≡ Err refusal → Breaks look index refusal
  pub never_both : (lists : List ContinuedList) (refusal : Refusal) → IsChain look index lists
      → ¬ Breaks look index refusal
