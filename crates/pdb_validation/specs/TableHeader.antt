-- The header of a table of types or of ids (`HDR` and `TpiHash` in Microsoft's tpi.h).
use Rattle.std.specs.Prelude.{ℕ, ℤ, pos, negsuc, ◌+◌, ◌-◌, ◌%◌, ◌==◌, Bool, true, false, ◌&&◌, ◌||◌, not, nat_lt}
use Rattle.std.specs.Prelude.{if◌then◌else◌, List, [], ◌∷◌, ◌++◌, length, is_none, Option, Some, None, Ok, Err}
use Rattle.pdb_base.specs.Answer.{Answer}
use Rattle.pdb_base.specs.Index.{stream_number}
use Rattle.pdb_msf.specs.Layout.{LayoutValue, size_by}
use Rattle.pdb_tpi.specs.declared.header.Slice.{Slice}
use Rattle.pdb_tpi.specs.declared.open_table.RecordPlace.{RecordPlace}
use Rattle.pdb_tpi.specs.OpenTable.{place_of_record}
use Rattle.pdb_tpi.specs.Table.{Table, count_in_header}
use Rattle.pdb_validation.specs.HeaderFields.{fields_mismatches, is_one_of, table_versions}
use Rattle.pdb_validation.specs.MissingStreams.{is_missing}
use Rattle.pdb_validation.specs.declared.header_fields.FieldCheck.{FieldCheck}
use Rattle.pdb_validation.specs.declared.inconsistency.Inconsistency.{Inconsistency}
use Rattle.pdb_validation.specs.declared.inconsistency.Inconsistency.TheVariants.{HashPart, HashSize, NoHashStream}
use Rattle.pdb_validation.specs.declared.inconsistency.Inconsistency.TheVariants.{RecordBytes, StreamMissing}
use Rattle.pdb_validation.specs.declared.inconsistency.Inconsistency.TheVariants.{UnknownVersion}
use Rattle.pdb_validation.specs.declared.mismatch.Mismatch.{Mismatch}

-- a field of four bytes, of which a byte of the stream is the first
abbrev pub word_field : ℕ → Bool → Inconsistency → FieldCheck
word_field byte is_wrong what = record { is_wrong = is_wrong; byte = Some byte; what = what }

-- ---- the records

-- whether a table of a size does not end with a record that has this place; one that has none is missing
abbrev pub ends_elsewhere : ℕ → Answer (Option RecordPlace) → Bool
ends_elsewhere size (Ok (Some place)) = not (place.offset + place.length == size)
ends_elsewhere size answer = false

-- whether the table does not end with the last record that the header counts, or with the header if it counts none
abbrev pub is_uncounted : Table → Bool
is_uncounted table =
    if count_in_header table == 0
    then not (table.header.header_size == length table.bytes)
    else ends_elsewhere (length table.bytes) (place_of_record table (table.header.maximum_index - 1))

-- The bytes of the records, and the end of their indexes: the table has these, and no more.
abbrev pub record_fields : Table → List FieldCheck
record_fields table =
    word_field 0 (not (is_one_of table_versions table.header.version)) (UnknownVersion table.header.version)
    ∷ word_field 12 (is_uncounted table) (RecordBytes table.header.maximum_index)
    ∷ word_field 16 (not (table.header.header_size + table.header.gprec_size == length table.bytes))
    (RecordBytes table.header.gprec_size)
    ∷ []

-- ---- the hashes

-- the number of the hash stream
abbrev pub hash_number : Table → Option ℕ
hash_number table = stream_number table.header.tpi_hash_stream

-- whether the hash stream has a number, and there is no such stream
abbrev pub lacks_stream : LayoutValue → Option ℕ → Bool
lacks_stream layout None = false
lacks_stream layout (Some number) = is_missing (size_by layout number)

-- whether a part of the hash stream, which has a size, is not within it
abbrev pub is_past : Answer ℕ → ℤ → ℕ → Bool
is_past (Ok stream) (pos start) size = nat_lt stream (start + size)
is_past (Ok stream) (negsuc n) size = true
is_past (Err refusal) offset size = false

-- the same for a part of the hash stream of a number, if there is one
abbrev pub is_part_outside : LayoutValue → Option ℕ → Slice → Bool
is_part_outside layout None part = false
is_part_outside layout (Some number) part = is_past (size_by layout number) part.offset part.size

-- whether the places of records, which take eight bytes each, have a size that is none, or none of them is there, where
-- there is a record
abbrev pub lacks_places : Table → Bool
lacks_places table =
    not (is_none (hash_number table))
    && (not (table.header.ti_off.size % 8 == 0)
    || table.header.ti_off.size == 0 && not (count_in_header table == 0))

-- A hash takes four bytes, and there are from 0x1000 to 0x40000 buckets. A table with records has a hash stream, in
-- which the parts lie.
abbrev pub hash_fields : LayoutValue → Table → List FieldCheck
hash_fields layout table =
    word_field 20 (lacks_stream layout (hash_number table)) (StreamMissing table.header.tpi_hash_stream)
    ∷ word_field 20 (is_none (hash_number table) && not (count_in_header table == 0)) NoHashStream
    ∷ word_field 24 (not (table.header.hash_key_size == 4)) (HashSize table.header.hash_key_size)
    ∷ word_field 28 (nat_lt table.header.hash_bucket_size 0x1000 || nat_lt 0x40000 table.header.hash_bucket_size)
    (HashSize table.header.hash_bucket_size)
    ∷ word_field 32 (is_part_outside layout (hash_number table) table.header.hash_values)
    (HashPart table.header.hash_values.size)
    ∷ word_field 40 (is_part_outside layout (hash_number table) table.header.ti_off || lacks_places table)
    (HashPart table.header.ti_off.size)
    ∷ word_field 48 (is_part_outside layout (hash_number table) table.header.hash_adj)
    (HashPart table.header.hash_adj.size)
    ∷ []

-- ---- all

-- the mismatches of the header of a table in the stream of a number; a stream without bytes is a table without a header
unfoldable pub table_header_mismatches : LayoutValue → ℕ → Table → List Mismatch
table_header_mismatches layout number table =
    if table.header.header_size == 0
    then []
    else fields_mismatches (Some number) (record_fields table) ++ fields_mismatches (Some number)
    (hash_fields layout table)
