-- What is returned about an open table of types or of ids.
use Rattle.std.specs.Prelude.{ℕ, ◌==◌, min, List, Option, Some, None, Ok, Err}
use Rattle.std.specs.Option.{option_map}
use Rattle.pdb_base.specs.Answer.{Answer, ◌>>=◌}
use Rattle.pdb_msf.specs.Layout.{LayoutValue, stream_by}
use Rattle.pdb_tpi.specs.{declared.open_table.RecordPlace.RecordPlace, OpenTable.place_of_record}
use Rattle.pdb_tpi.specs.{OpenTable.record_bytes, StepLaws.first_stand, Table.Table, Table.table_of}
use Rattle.pdb_handles.specs.declared.content.Content.{Content}
use Rattle.pdb_handles.specs.{declared.tables.FoundRecord.FoundRecord, declared.tables.IndexRange.IndexRange}
use Rattle.pdb_handles.specs.declared.tables.Located.{Located}
use Rattle.pdb_handles.specs.declared.content.Content.TheVariants as contents
use Rattle.pdb_handles.specs.Fault.{fault_of_refusal, fine, no_value}

-- the table in a stream of a file, with its walk before the first item; stream 4 holds ids
abbrev pub table_said : LayoutValue → List ℕ → ℕ → Answer Content
table_said layout file number = stream_by layout file number None >>= table_of >>= λ table. Ok
    (contents.Table (record { types = first_stand table; are_ids = number == 4 }))

-- the indexes that the header of a table counts
abbrev pub range_in : Table → IndexRange
range_in table = record { first = table.header.minimum_index; end = table.header.maximum_index }

-- the place of the record of an index, for the caller
abbrev pub located_at : ℕ → RecordPlace → Located
located_at index place = record { index = index; offset = place.offset; length = place.length }

-- what is found of the record of an index: its place; or the index alone, and why there is no record
abbrev pub found_by : ℕ → Answer (Option RecordPlace) → FoundRecord
found_by index (Ok (Some place)) = record { position = located_at index place; fault = fine }
found_by index (Ok None) =
    record { position = record { index = index; offset = 0; length = 0 }; fault = no_value }
found_by index (Err refusal) =
    record { position = record { index = index; offset = 0; length = 0 }; fault = fault_of_refusal refusal }

abbrev pub record_found : Table → ℕ → FoundRecord
record_found table index = found_by index (place_of_record table index)

-- the bytes of the record of an index, if it has one
abbrev pub bytes_found : Table → ℕ → Answer (Option (List ℕ))
bytes_found table index = place_of_record table index >>= λ place. Ok (option_map (record_bytes table) place)

-- an index, or 0xffffffff if it is above that
abbrev pub index_told : ℕ → ℕ
index_told index = min index 0xffffffff
