-- A finder knows where some blocks of eight items begin, and looks up an item by a walk within its block.
use Rattle.std.specs.Prelude.{◌≡◌, ℕ, ◌+◌, ◌-◌, ◌*◌, ◌/◌, ◌<◌, ◌≤◌, ◌==◌, Bool, IsTrue, ◌&&◌, nat_lt, nat_le, min, max}
use Rattle.std.specs.Prelude.{if◌then◌else◌, List, [], ◌∷◌, ◌++◌, length, map, Option, Some, None, Ok, Err}
use Rattle.std.specs.Int.{div_ceil}
use Rattle.std.specs.List.{fold, range_with_len}
use Rattle.pdb_base.specs.Refusal.{type_not_found, type_not_indexed}
use Rattle.pdb_base.specs.Answer.{Answer}
use Rattle.pdb_tpi.specs.Table.{Table, count_in_header}
use Rattle.pdb_tpi.specs.Steps.{walk, walk_rest, nth_item}

-- a table, and how many of its blocks are known
pub record FinderState : Type 0 where
  pub table : Table
  pub known : ℕ

-- the index of the first item of a block
abbrev pub first_of_block : Table → ℕ → ℕ
first_of_block table block = table.header.minimum_index + 8 * block

-- the block of an index
abbrev pub block_of : Table → ℕ → ℕ
block_of table i = (i - table.header.minimum_index) / 8

-- the number of blocks that a new finder knows: the first one, if the header counts any index
abbrev pub known_when_new : Table → ℕ
known_when_new table = if count_in_header table == 0 then 0 else 1

-- These indexes occur in a list of indexes in this order, next to each other or not.
abbrev pub StandIn : List ℕ → List ℕ → Type 0
StandIn [] shown = Unit {0}
StandIn (first ∷ firsts) shown = (before : List ℕ) × (behind : List ℕ) × (shown ≡ before ++ first ∷ behind)
    × StandIn firsts behind

-- Blocks become known up to `known`: the first index of each new block is below the maximum, and
-- iterators at these first indexes were shown in their order.
pub record AreShown (table : Table) (old : ℕ) (shown : List ℕ) (known : ℕ) : Type 0 where
  pub more : old ≤ known
  pub below : (block : ℕ) → old ≤ block → block < known → first_of_block table block < table.header.maximum_index
  pub in_order : StandIn (map (first_of_block table) (range_with_len old (known - old))) shown

-- The number of blocks that are known after iterators that stood at these indexes were shown: the most
-- for which `AreShown` holds.
pub record IsKnown (table : Table) (old : ℕ) (shown : List ℕ) (known : ℕ) : Type 0 where
  pub reached : AreShown table old shown known
  pub most : (other : ℕ) → AreShown table old shown other → other ≤ known

-- The number of blocks that are known after one iterator was shown: one more, if it stands before the
-- first item of the next block and the index of that item is below the maximum.
abbrev pub known_after : Table → ℕ → ℕ → ℕ
known_after table known i = if i == first_of_block table known
    && nat_lt i table.header.maximum_index then known + 1 else known

-- the same after several iterators, one after another
unfoldable pub known_of : Table → ℕ → List ℕ → ℕ
known_of table known shown = fold (known_after table) known shown

-- the last index of the blocks that are known, or 0 if none is
abbrev pub max_index_of : Table → ℕ → ℕ
max_index_of table known = if known == 0 then 0 else min (first_of_block table known) table.header.maximum_index - 1

-- whether the header counts an index
abbrev pub has_index : Table → ℕ → Bool
has_index table i = nat_le table.header.minimum_index i && nat_lt i table.header.maximum_index

-- the last block that the walk reaches: all items before it are in the walk
abbrev pub last_reached : Table → ℕ
last_reached table = length (walk table) / 8

-- The number of blocks that are known once those up to that of an index are learned: the most blocks up to that
-- one that the walk reaches, or as many as were known if those are more. An index that the header doesn't count
-- is in no block.
abbrev pub known_up_to : Table → ℕ → ℕ → ℕ
known_up_to table known i =
    if has_index table i then max known (min (block_of table i) (last_reached table) + 1) else known

-- Nothing is left to learn for the look-up of an index: each block up to that of the index is known, as far as the
-- walk reaches.
abbrev pub IsLearned : Table → ℕ → ℕ → Type 0
IsLearned table known i = IsTrue (has_index table i) → min (block_of table i) (last_reached table) < known

-- The place of an index in the walk. An index below the minimum stands for a primitive type and has none, and from
-- the maximum on there is no item.
abbrev pub place_in_walk : Table → ℕ → Answer (Option ℕ)
place_in_walk table i =
    if nat_lt i table.header.minimum_index
    then Ok None
    else if nat_le table.header.maximum_index i
    then Err (type_not_found i)
    else Ok (Some (i - table.header.minimum_index))

-- The item of an index. An index below the minimum stands for a primitive type, which has no record: its
-- item is the bytes ff ff. From the maximum on, there is no item.
unfoldable pub item_of : Table → ℕ → Answer (List ℕ)
item_of table i =
    if nat_lt i table.header.minimum_index
    then Ok (0xff ∷ 0xff ∷ [])
    else if nat_le table.header.maximum_index i
    then Err (type_not_found i)
    else nth_item table (i - table.header.minimum_index)

-- the answer of a look-up: the item of the index, or the refusal `type_not_indexed` if the header counts
-- the index and its block isn't known
unfoldable pub find_of : Table → ℕ → ℕ → Answer (List ℕ)
find_of table known i =
    if has_index table i && nat_le known (block_of table i)
    then Err (type_not_indexed i (max_index_of table known))
    else item_of table i

-- The number of length words that a walk reads from one item to another: those of the items before the
-- other one, and its own. If the walk stops before the other item, these are those of all items that are
-- left, and that of the item at which the walk stops, if that length word is whole.
unfoldable pub reads_between : Table → ℕ → ℕ → ℕ
reads_between table from to =
    if nat_lt to (length (walk table))
    then to - from + 1
    else length (walk table) - from + (if nat_le 2 (length (walk_rest table)) then 1 else 0)

-- The number of length words that a look-up reads: those from the first item of the block on, and none if
-- the index isn't counted or its block isn't known.
unfoldable pub reads_of : Table → ℕ → ℕ → ℕ
reads_of table known i =
    if has_index table i && nat_lt (block_of table i) known
    then reads_between table (8 * block_of table i) (i - table.header.minimum_index)
    else 0

-- The number of length words that a look-up in the whole table reads: those from the first item of the last known
-- block on that isn't behind the index's, and none if the index isn't counted.
unfoldable pub reads_from : Table → ℕ → ℕ → ℕ
reads_from table known i =
    if has_index table i
    then reads_between table (8 * min (block_of table i) (known - 1)) (i - table.header.minimum_index)
    else 0

-- The most blocks that can be known: as many as hold the counted items, but, since an item takes at least
-- four bytes, at most one more than one for each 32 bytes behind the header.
unfoldable pub most_blocks : Table → ℕ
most_blocks table = min (div_ceil (count_in_header table) 8) (1 + (length table.bytes - table.header.header_size) / 32)
