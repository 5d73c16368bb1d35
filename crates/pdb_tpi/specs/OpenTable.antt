-- Where the records of a table stand in its stream, and what a table that stays open keeps.
use Rattle.std.specs.Prelude.{ℕ, ◌+◌, ◌-◌, ◌<◌, nat_lt, if◌then◌else◌, List, length, take, drop, Option, Some, None, Ok}
use Rattle.std.specs.List.{sum_by}
use Rattle.std.specs.Option.{option_map}
use Rattle.pdb_base.specs.Answer.{Answer, ◌>>=◌}
use Rattle.pdb_tpi.specs.declared.open_table.RecordPlace.{RecordPlace}
use Rattle.pdb_tpi.specs.Table.{Table}
use Rattle.pdb_tpi.specs.Steps.{WalkPosition, walk, steps_taken, step_of}
use Rattle.pdb_tpi.specs.Place.{ArePlaces}
use Rattle.pdb_tpi.specs.Finder.{item_of}

-- the number of bytes that an item takes: two for its length, and those of its record
abbrev pub item_size : List ℕ → ℕ
item_size item = 2 + length item

-- the offset at which item `n` of the walk begins: behind the header and the items before it
unfoldable pub item_position : Table → ℕ → ℕ
item_position table n = table.header.header_size + sum_by item_size (take n (walk table))

-- the place of the record of item `n` of the walk: behind the item's length
abbrev pub record_place : Table → ℕ → List ℕ → RecordPlace
record_place table n item = record { offset = item_position table n + 2; length = length item }

-- the bytes of a table at a place, as many of them as there are
abbrev pub record_bytes : Table → RecordPlace → List ℕ
record_bytes table place = take place.length (drop place.offset table.bytes)

-- The place of the record of an index. An index below the minimum stands for a primitive type, which has
-- no record, and so no place.
abbrev pub place_of_record : Table → ℕ → Answer (Option RecordPlace)
place_of_record table i =
    if nat_lt i table.header.minimum_index
    then Ok None
    else item_of table i >>= λ item. Ok (Some (record_place table (i - table.header.minimum_index) item))

-- the place of the record that the next step of a walk returns, and where the walk stands afterwards
abbrev pub step_located : WalkPosition → Answer (Option RecordPlace × WalkPosition)
step_located stand = step_of stand >>= λ step. Ok
    (option_map (λ item. record_place stand.table (steps_taken stand) item.1) step.0, step.1)

-- What an open table keeps: where the blocks begin that are known, which are some if the header counts an index.
pub record AreKnownPlaces (table : Table) (positions : List ℕ) (capacity : ℕ) : Type 0 where
  pub blocks : ArePlaces table positions capacity
  pub some : table.header.minimum_index < table.header.maximum_index → 0 < length positions
