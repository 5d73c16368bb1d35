-- Ranges of addresses, and where they are moved, both address by address and in parts.
use Rattle.std.specs.Prelude.{ℕ, ◌+◌, ◌-◌, ◌<◌, ◌==◌, nat_lt, nat_le, if◌then◌else◌, min, max, List, [], ◌∷◌, filter}
use Rattle.std.specs.Prelude.{filter_map, flat_map, Option, Some, None}
use Rattle.std.specs.declared.ops.Range.{Range}
use Rattle.std.specs.List.{range_with_len, cons_option}
use Rattle.pdb_space.specs.Sum.{largest}
use Rattle.pdb_space.specs.Omap.{OmapValue}

-- the numbers in a range, from its start on and below its end
abbrev pub numbers_of : Range ℕ → List ℕ
numbers_of range = range_with_len range.start (range.end - range.start)

-- the numbers of ranges, one range after another
abbrev pub end_to_end : List (Range ℕ) → List ℕ
end_to_end ranges = flat_map numbers_of ranges

-- Where each address of a range is moved, one by one. This leaves out addresses that go nowhere, and results
-- from 0xffffffff on, which no half-open range of 32 bits can hold.
unfoldable pub pointwise : (ℕ → Option ℕ) → Range ℕ → List ℕ
pointwise move range = filter (λ address. nat_lt address largest) (filter_map move (numbers_of range))

-- the range, if it isn't empty
unfoldable pub unless_empty : Range ℕ → Option (Range ℕ)
unless_empty range = if nat_lt range.start range.end then Some range else None

-- Where a record moves its part of the range of the query, which is the part from its source to that of
-- the next record. Each address in it is moved as by itself, and the result ends at 0xffffffff at most.
unfoldable pub part : OmapValue → ℕ → Range ℕ → Option (Range ℕ)
part mapping next asked =
    let low = max mapping.source asked.start in
    let high = min next asked.end in
    if mapping.target == 0 then None else unless_empty
    (record {
      start = mapping.target + (low - mapping.source);
      end =
          min (mapping.target + (high - mapping.source)) largest;
    })

-- the end of a record's addresses: the source of the next record, or `end` for the last record
abbrev pub next_source : List OmapValue → ℕ → ℕ
next_source [] end = end
next_source (mapping ∷ table) end = mapping.source

-- the parts to which the records move the range of the query, record by record; nothing is merged
abbrev pub parts : List OmapValue → Range ℕ → List (Range ℕ)
parts [] asked = []
parts (mapping ∷ table) asked = cons_option (part mapping (next_source table asked.end) asked) (parts table asked)

-- the same, up to the first record whose source is at or past the end of the range
abbrev pub parts_until : List OmapValue → Range ℕ → List (Range ℕ)
parts_until [] asked = []
parts_until (mapping ∷ table) asked =
    if nat_le asked.end mapping.source then [] else cons_option (part mapping (next_source table asked.end) asked)
    (parts_until table asked)

-- The range isn't empty.
abbrev pub IsNotEmpty : Range ℕ → Type 0
IsNotEmpty range = range.start < range.end
