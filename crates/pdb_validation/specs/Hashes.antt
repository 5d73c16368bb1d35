-- The hash stream of a table of types or of ids (`TpiHash` in Microsoft's tpi.h): the hash values of the records, four
-- bytes each, and the places of some records, each its index and its offset behind the header of the table.
use Rattle.std.specs.Prelude.{ℕ, ℤ, pos, negsuc, ◌+◌, ◌*◌, ◌/◌, ◌==◌, Bool, false, not, nat_le, List, [], ◌++◌, length}
use Rattle.std.specs.Prelude.{take, drop, Option, Some, None, Ok}
use Rattle.std.specs.Bool.{then_some}
use Rattle.std.specs.Option.{option_to_list}
use Rattle.pdb_base.specs.Answer.{Answer}
use Rattle.pdb_base.specs.Reading.{word_at}
use Rattle.pdb_tpi.specs.declared.header.Header.{Header}
use Rattle.pdb_tpi.specs.declared.open_table.RecordPlace.{RecordPlace}
use Rattle.pdb_tpi.specs.OpenTable.{place_of_record}
use Rattle.pdb_tpi.specs.Table.{Table, count_in_header}
use Rattle.pdb_validation.specs.Words.{mismatches_at}
use Rattle.pdb_validation.specs.declared.inconsistency.Inconsistency.{Inconsistency}
use Rattle.pdb_validation.specs.declared.inconsistency.Inconsistency.TheVariants.{HashCount, HashTooLarge, IndexOffset}
use Rattle.pdb_validation.specs.declared.mismatch.Mismatch.{Mismatch}

-- where a part of the hash stream begins, which has an offset: at 0, if that is negative
abbrev pub part_start : ℤ → ℕ
part_start (pos start) = start
part_start (negsuc n) = 0

-- the bytes of a part of the hash stream, as many of them as there are; one with a negative offset has none
abbrev pub part_in : ℤ → ℕ → List ℕ → List ℕ
part_in (pos start) size hashes = take size (drop start hashes)
part_in (negsuc n) size hashes = []

-- what is inconsistent in the hash stream of a number, at a record and at a byte
abbrev pub in_hashes : ℕ → ℕ → ℕ → Inconsistency → Mismatch
in_hashes number index byte what = record { stream = Some number; index = Some index; byte = Some byte; what = what }

-- ---- hash values

-- the mismatch of the number of hash values, in as many bytes, if there is not one for each index that the table counts
abbrev pub count_mismatch_of : ℕ → ℕ → ℕ → Option Mismatch
count_mismatch_of number count size =
    then_some (not (size == 4 * count))
    (record { stream = Some number; index = None; byte = None; what = HashCount (size / 4) })

-- the mismatch of the hash value at a place, if it is not below the number of buckets
abbrev pub value_mismatch : ℕ → Header → List ℕ → ℕ → Option Mismatch
value_mismatch number header values place =
    then_some (nat_le header.hash_bucket_size (word_at (4 * place) values))
    (in_hashes number (header.minimum_index + place) (part_start header.hash_values.offset + 4 * place)
    (HashTooLarge (word_at (4 * place) values)))

-- ---- places of records

-- whether a record begins at an offset behind the header of its table, with its length before it
abbrev pub is_record_at : ℕ → ℕ → Answer (Option RecordPlace) → Bool
is_record_at header_size offset (Ok (Some place)) = place.offset == header_size + offset + 2
is_record_at header_size offset answer = false

-- the mismatch of the place of a record that is stored at a place of the list, if the record is not there
abbrev pub offset_mismatch : ℕ → Table → List ℕ → ℕ → Option Mismatch
offset_mismatch number table offsets place =
    then_some (not (is_record_at table.header.header_size (word_at (8 * place + 4) offsets)
    (place_of_record table (word_at (8 * place) offsets))))
    (in_hashes number (word_at (8 * place) offsets) (part_start table.header.ti_off.offset + 8 * place)
    (IndexOffset (word_at (8 * place) offsets)))

-- ---- all

-- the mismatches of the hash values
unfoldable pub values_mismatches : ℕ → Table → List ℕ → List Mismatch
values_mismatches number table values =
    option_to_list (count_mismatch_of number (count_in_header table) (length values))
    ++ mismatches_at (value_mismatch number table.header values) (length values / 4)

-- the mismatches of the places of records
unfoldable pub offsets_mismatches : ℕ → Table → List ℕ → List Mismatch
offsets_mismatches number table offsets = mismatches_at (offset_mismatch number table offsets) (length offsets / 8)

-- the mismatches of the hash stream of a number, which goes with a table
abbrev pub hashes_mismatches : ℕ → Table → List ℕ → List Mismatch
hashes_mismatches number table hashes =
    values_mismatches number table (part_in table.header.hash_values.offset table.header.hash_values.size hashes)
    ++ offsets_mismatches number table (part_in table.header.ti_off.offset table.header.ti_off.size hashes)
