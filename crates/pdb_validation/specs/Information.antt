-- Stream 1: a known version, and behind the names a table with as many entries as it has bits for those that are
-- present (`PDBStream70` in Microsoft's pdb.h, and `Map` in its map.h).
use Rattle.std.specs.Prelude.{ℕ, ◌+◌, ◌*◌, ◌==◌, ◌&&◌, Bool, not, nat_le, nat_lt, if◌then◌else◌, List, [], ◌∷◌, length}
use Rattle.std.specs.Prelude.{count_ones, map, Some}
use Rattle.std.specs.List.{range_with_len, sum_by}
use Rattle.pdb_base.specs.Reading.{word_at}
use Rattle.pdb_validation.specs.HeaderFields.{fields_mismatches, information_versions, is_one_of}
use Rattle.pdb_validation.specs.declared.header_fields.FieldCheck.{FieldCheck}
use Rattle.pdb_validation.specs.declared.inconsistency.Inconsistency.TheVariants.{NamedStreamCount, UnknownVersion}
use Rattle.pdb_validation.specs.declared.mismatch.Mismatch.{Mismatch}

-- the byte of stream 1 at which the table behind the names begins: a count of entries, a capacity, and the number of
-- the words of bits, which follow
abbrev pub named_byte : List ℕ → ℕ
named_byte stream = 32 + word_at 28 stream

-- how many bits are set in some words from a byte on
unfoldable pub ones_from : List ℕ → ℕ → ℕ → ℕ
ones_from stream byte count =
    sum_by count_ones (map (λ place. word_at (byte + 4 * place) stream) (range_with_len 0 count))

-- whether the stream has the words of bits
abbrev pub are_bits_there : List ℕ → Bool
are_bits_there stream =
    nat_le (named_byte stream + 12) (length stream)
    && nat_le (named_byte stream + 12 + 4 * word_at (named_byte stream + 8) stream) (length stream)

-- how many entries the table counts, and how many it has by its bits, if these are there
abbrev pub named_counts : List ℕ → ℕ × ℕ
named_counts stream =
    if are_bits_there stream
    then (
      word_at (named_byte stream) stream,
      ones_from stream (named_byte stream + 12) (word_at (named_byte stream + 8) stream),
    )
    else (0, 0)

abbrev pub information_fields : List ℕ → List FieldCheck
information_fields stream =
    record {
      is_wrong = not (is_one_of information_versions (word_at 0 stream));
      byte = Some 0;
      what = UnknownVersion (word_at 0 stream);
    }
    ∷ record {
      is_wrong = not ((named_counts stream).1 == (named_counts stream).0);
      byte = Some (named_byte stream);
      what = NamedStreamCount (named_counts stream).0;
    }
    ∷ []

-- the mismatches of stream 1, if it has the bytes before the names
unfoldable pub information_mismatches : List ℕ → List Mismatch
information_mismatches stream =
    fields_mismatches (Some 1) (if nat_lt (length stream) 32 then [] else information_fields stream)
