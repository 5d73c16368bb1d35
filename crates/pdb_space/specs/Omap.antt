-- OMAP tables, which say where addresses go if a tool rearranges an image. A record says where the addresses
-- go from its source up to the source of the next record.
use Rattle.std.specs.Prelude.{◌≡◌, ℕ, ◌+◌, ◌-◌, ◌%◌, ◌≤◌, ◌==◌, nat_le, if◌then◌else◌, List, length, map, filter, drop}
use Rattle.std.specs.Prelude.{slice_index, codes, Contains, Option, Some, None, option_and_then, Ok}
use Rattle.std.specs.List.{last_or}
use Rattle.std.specs.List.Sorted.{IsNonDecreasingBy}
use Rattle.pdb_base.specs.Endian.{little_number}
use Rattle.pdb_base.specs.Refusal.{invalid_stream_length}
use Rattle.pdb_base.specs.Answer.{Answer, ◌>>=◌, ok_if}
use Rattle.pdb_base.specs.Reading.{front_at, read_as}
use Rattle.pdb_base.specs.Records.{values_of_size}
use Rattle.pdb_space.specs.Sum.{if_fits_32_bits}

-- a record of an OMAP table: the first address that it moves, and where it moves that address
pub record OmapValue : Type 0 where
  pub source : ℕ
  pub target : ℕ

-- the record in eight bytes: a u32 source and a u32 target
unfoldable pub mapping_of : List ℕ → OmapValue
mapping_of bytes = record { source = little_number 4 bytes; target = little_number 4 (drop 4 bytes) }

-- the record at the front of bytes, and what follows its eight bytes
abbrev pub first_mapping : List ℕ → Answer (OmapValue × List ℕ)
first_mapping bytes = read_as mapping_of (front_at 8 bytes)

-- the records that bytes hold, eight bytes each
abbrev pub mappings_of : List ℕ → List OmapValue
mappings_of bytes = values_of_size 8 mapping_of bytes

-- the source of the record at an index
abbrev pub source_at : List OmapValue → ℕ → ℕ
source_at table place = slice_index (map (λ mapping. mapping.source) table) place

-- the target of the record at an index
abbrev pub target_at : List OmapValue → ℕ → ℕ
target_at table place = slice_index (map (λ mapping. mapping.target) table) place

-- the table in a stream, whose length must be a multiple of eight
unfoldable pub omap_table_of : List ℕ → Answer (List OmapValue)
omap_table_of bytes = do
  whole ← ok_if (length bytes % 8 == 0) (invalid_stream_length (codes "OMAP"))
  Ok (mappings_of bytes)

-- The sources don't decrease from record to record.
abbrev pub IsSortedBySource : List OmapValue → Type 0
IsSortedBySource table = IsNonDecreasingBy (λ mapping. mapping.source) table

-- the last record whose source is at or below the address
abbrev pub last_at_or_below : List OmapValue → ℕ → Option OmapValue
last_at_or_below table address = last_or None (filter (λ mapping. nat_le mapping.source address) table)

-- Where a record moves an address: to its target plus the distance of the address from its source. The
-- address goes nowhere if the target is 0 or the sum does not fit in 32 bits.
unfoldable pub move_address : OmapValue → ℕ → Option ℕ
move_address mapping address =
    if mapping.target == 0 then None else if_fits_32_bits (mapping.target + (address - mapping.source))

-- where a table moves an address: where the last record with a source at or below it does
unfoldable pub shift : List OmapValue → ℕ → Option ℕ
shift table address = option_and_then (λ mapping. move_address mapping address) (last_at_or_below table address)

-- Some record of the table with a source at or below the address moves it to `result`.
pub record MovesSomehow (table : List OmapValue) (address result : ℕ) : Type 0 where
  pub mapping : OmapValue
  pub contained : Contains table mapping
  pub at_or_below : mapping.source ≤ address
  pub moves : move_address mapping address ≡ Some result
