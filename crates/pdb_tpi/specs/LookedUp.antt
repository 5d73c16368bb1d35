-- The lists that are looked up for the fields of an index, and when this takes memory.
use Rattle.std.specs.Prelude.{◌≡◌, ◌⊎◌, ℕ, zero, suc, ◌≤◌, nat_lt, if◌then◌else◌, List, [], ◌∷◌, Option, Some, None}
use Rattle.std.specs.Prelude.{Ok, Err}
use Rattle.pdb_base.specs.declared.index.TypeIndex.{TypeIndex}
use Rattle.pdb_base.specs.Answer.{Answer}
use Rattle.pdb_base.specs.Memory.{HasItem}
use Rattle.pdb_values.specs.Primitive.{first_record}
use Rattle.pdb_records.specs.Fields.{field_list_leaf}
use Rattle.pdb_records.specs.Memory.{NeedsMemory}
use Rattle.pdb_tpi.specs.Record.{kind_of}
use Rattle.pdb_tpi.specs.Chain.{LookUp, ContinuedList, list_of}

-- the indexes from the continuation of a list on; `behind` gives those from an index on that is below the list's
abbrev pub lists_behind : (ℕ → List ℕ) → ℕ → Option TypeIndex → List ℕ
lists_behind behind index None = []
lists_behind behind index (Some next) = if nat_lt next.0 index then behind next.0 else []

-- the indexes behind that of a list, if it is one
abbrev pub lists_after : (ℕ → List ℕ) → ℕ → Answer ContinuedList → List ℕ
lists_after behind index (Ok list) = lists_behind behind index list.continuation
lists_after behind index (Err e) = []

-- the same from an index on, at most as many as the first argument
abbrev pub lists_along : ℕ → LookUp → ℕ → List ℕ
lists_along zero look index = []
lists_along (suc most) look index = index ∷ lists_after (lists_along most look) index (list_of look index)

-- The indexes that are looked up for the fields of an index, in order: its own and those of the lists that continue
-- its list, up to the last list, or to where the chain breaks.
unfoldable pub lists_looked_up : LookUp → ℕ → List ℕ
lists_looked_up look index = lists_along (suc index) look index

-- Reading the list of fields of an index takes memory: the list has a field, or its record holds an item of a list.
abbrev pub ListNeedsMemory : LookUp → ℕ → Type 0
ListNeedsMemory look index =
    ((list : ContinuedList) × (list_of look index ≡ Ok list) × HasItem list.fields)
    ⊎ ((item : List ℕ) × (look index ≡ Ok item) × (kind_of item ≡ field_list_leaf) × (first_record ≤ index)
    × NeedsMemory item)

-- Reading one of the lists of these indexes takes memory.
abbrev pub OneNeedsMemory : LookUp → List ℕ → Type 0
OneNeedsMemory look [] = ⊥
OneNeedsMemory look (index ∷ indexes) = ListNeedsMemory look index ⊎ OneNeedsMemory look indexes
