-- Where in the bytes of a table an iterator stands.
use Rattle.std.specs.Prelude.{◌≡◌, ℕ, ◌+◌, ◌-◌, ◌*◌, ◌<◌, ◌≤◌, List, length, drop, slice_index}
use Rattle.pdb_tpi.specs.Table.{Table}
use Rattle.pdb_tpi.specs.Walk.{items, rest}
use Rattle.pdb_tpi.specs.Steps.{room, walk, walk_rest}
use Rattle.pdb_tpi.specs.Finder.{first_of_block, most_blocks}

-- At this position, the walk goes on with the items from number `n` on.
pub record GoesOn (table : Table) (n position : ℕ) : Type 0 where
  pub items : drop n (walk table) ≡ items (room table - n) (drop position table.bytes)
  pub rest : walk_rest table ≡ rest (room table - n) (drop position table.bytes)

-- An iterator stands before an index, at a position: as many items as the index is above the minimum
-- stand before the position, each of at least four bytes, and the walk goes on there.
pub record IsPlace (table : Table) (index position : ℕ) : Type 0 where
  pub least : table.header.minimum_index ≤ index
  pub reached : index - table.header.minimum_index ≤ length (walk table)
  pub far : table.header.header_size + 4 * (index - table.header.minimum_index) ≤ position
  pub within : position ≤ length table.bytes
  pub short : length table.bytes < 0xffffffff
  pub goes_on : GoesOn table (index - table.header.minimum_index) position

-- The positions that a finder keeps: each block's first item, whose index is below the maximum, begins at
-- its position, and the capacity is enough for the most blocks that can be known.
pub record ArePlaces (table : Table) (positions : List ℕ) (capacity : ℕ) : Type 0 where
  pub each : (block : ℕ) → block < length positions → IsPlace table (first_of_block table block)
      (slice_index positions block)
  pub below : (block : ℕ) → block < length positions → first_of_block table block < table.header.maximum_index
  pub few : length positions ≤ most_blocks table
  pub reserved : most_blocks table ≤ capacity
