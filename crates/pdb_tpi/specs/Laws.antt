-- The definitions of headers, of the walk and of finders, restated in other words.
use Rattle.std.specs.Prelude.{◌≡◌, ℕ, ◌+◌, ◌-◌, ◌%◌, ◌<◌, ◌≤◌, List, ◌++◌, length, take, drop, IsTrue, Ok}
use Rattle.std.specs.List.{AllByRecursion}
use Rattle.pdb_base.specs.Endian.{little_number}
use Rattle.pdb_base.specs.Refusal.{unexpected_eof, type_too_short, type_not_found}
use Rattle.pdb_tpi.specs.Header.{header_fields}
use Rattle.pdb_tpi.specs.Faults.{table_header_at}
use Rattle.pdb_tpi.specs.Table.{Table}
use Rattle.pdb_tpi.specs.Walk.{with_length, IsItem, IsWalk, items, rest, fault_of}
use Rattle.pdb_tpi.specs.Steps.{walk}
use Rattle.pdb_tpi.specs.Finder.{has_index, block_of, reads_of}

-- bytes are numbers below 256
abbrev pub AreBytes : List ℕ → Type 0
AreBytes bytes = AllByRecursion (λ byte. byte < 256) bytes

-- The fields of a header stand at fixed offsets, within the first 56 bytes.
abbrev pub HasTableHeaderAtOffsets : List ℕ → Type 0
HasTableHeaderAtOffsets bytes =
    56 ≤ length bytes
    → header_fields bytes ≡ Ok (table_header_at bytes, drop 56 bytes)

-- For any bytes, there is exactly one walk.
pub record WalksOnce (limit : ℕ) (bytes : List ℕ) : Type 0 where
  pub is : IsWalk limit bytes (items limit bytes) (rest limit bytes)
  pub only : (found : List (List ℕ)) (left : List ℕ) → IsWalk limit bytes found left → (found ≡ items limit bytes)
      × (left ≡ rest limit bytes)

-- The fault of the bytes at which a walk stops: that they end within a length or within the item behind
-- it, that the length leaves no room for a kind, or, if a whole item stands there, that its index would
-- be too large.
pub record HasFault (bytes : List ℕ) : Type 0 where
  pub no_length : length bytes < 2 → fault_of bytes ≡ unexpected_eof
  pub too_short : 2 ≤ length bytes → little_number 2 (take 2 bytes) < 2 → fault_of bytes ≡ type_too_short
  pub cut : 2 ≤ little_number 2 (take 2 bytes) → length bytes < 2 + little_number 2 (take 2 bytes)
      → fault_of bytes ≡ unexpected_eof
  pub whole : (item more : List ℕ) → IsItem item → bytes ≡ with_length item ++ more
      → fault_of bytes ≡ type_not_found 0xffffffff

-- A look-up reads at most eight length words. If the walk has the item, these are those of the items
-- before it in its block, and its own.
pub record ReadsFew (table : Table) (known i : ℕ) : Type 0 where
  pub few : reads_of table known i ≤ 8
  pub found : IsTrue (has_index table i) → block_of table i < known
      → i - table.header.minimum_index < length (walk table)
      → reads_of table known i ≡ (i - table.header.minimum_index) % 8 + 1
