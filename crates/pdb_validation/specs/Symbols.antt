-- The streams of symbols, as far as their sizes go: the hash table of the globals, that of the publics with what goes
-- with it, and the records (`GSIHashHdr` and `PSGSIHDR` in Microsoft's gsi.h, `SYMTYPE` in its cvinfo.h).
use Rattle.std.specs.Prelude.{ℕ, ◌+◌, ◌-◌, ◌*◌, ◌%◌, ◌==◌, ◌&&◌, Bool, true, not, nat_lt, if◌then◌else◌, List, [], ◌∷◌}
use Rattle.std.specs.Prelude.{◌++◌, length, take, drop, Some, Ok}
use Rattle.pdb_base.specs.Answer.{Answer, ◌>>=◌}
use Rattle.pdb_base.specs.Reading.{word_at}
use Rattle.pdb_tpi.specs.Walk.{behind, first_item, rest}
use Rattle.pdb_validation.specs.HeaderFields.{fields_mismatches}
use Rattle.pdb_validation.specs.TableHeader.{word_field}
use Rattle.pdb_validation.specs.declared.header_fields.FieldCheck.{FieldCheck}
use Rattle.pdb_validation.specs.declared.inconsistency.Inconsistency.TheVariants.{PublicSizes, SymbolCut}
use Rattle.pdb_validation.specs.declared.inconsistency.Inconsistency.TheVariants.{SymbolHashSizes, SymbolHashVersion}
use Rattle.pdb_validation.specs.declared.mismatch.Mismatch.{Mismatch}

-- ---- hash tables

-- A header of 16 bytes, records of eight bytes each and buckets fill a hash table.
abbrev pub is_filled : List ℕ → Bool
is_filled table = 16 + word_at 8 table + word_at 12 table == length table && word_at 8 table % 8 == 0

-- the signature, the version and the sizes in the header of a hash table, which begins at a byte of its stream
abbrev pub hash_table_fields : ℕ → List ℕ → List FieldCheck
hash_table_fields byte table =
    word_field byte (not (word_at 0 table == 0xffffffff)) (SymbolHashVersion (word_at 0 table))
    ∷ word_field (byte + 4) (not (word_at 4 table == 0xeffe0000 + 19990810)) (SymbolHashVersion (word_at 4 table))
    ∷ word_field (byte + 8) (not (is_filled table)) SymbolHashSizes ∷ []

-- the same of one that may be too short for its header
abbrev pub hash_table_checks : ℕ → List ℕ → List FieldCheck
hash_table_checks byte table =
    if nat_lt (length table) 16
    then word_field byte true SymbolHashSizes ∷ []
    else hash_table_fields byte table

-- the mismatches of the stream of globals, which is a hash table
abbrev pub globals_mismatches : ℕ → List ℕ → List Mismatch
globals_mismatches number stream = fields_mismatches (Some number) (hash_table_checks 0 stream)

-- ---- publics

-- The header of 28 bytes, the hash table, the map of addresses, and the maps of thunks and of sections, of four and
-- of eight bytes each, fill the stream.
abbrev pub publics_size : List ℕ → ℕ
publics_size stream = 28 + word_at 0 stream + word_at 4 stream + 4 * word_at 8 stream + 8 * word_at 24 stream

abbrev pub publics_field : List ℕ → FieldCheck
publics_field stream = word_field 0 (not (publics_size stream == length stream)) PublicSizes

-- the hash table in the stream of publics, as much of it as there is
abbrev pub publics_table : List ℕ → List ℕ
publics_table stream = take (word_at 0 stream) (drop 28 stream)

-- the mismatches of the stream of publics
unfoldable pub publics_mismatches : ℕ → List ℕ → List Mismatch
publics_mismatches number stream =
    if nat_lt (length stream) 28
    then fields_mismatches (Some number) (word_field 0 true PublicSizes ∷ [])
    else fields_mismatches (Some number) (publics_field stream ∷ [])
    ++ fields_mismatches (Some number) (hash_table_checks 28 (publics_table stream))

-- ---- records

-- the bytes behind the record at the front of bytes
unfoldable pub behind_symbol : List ℕ → Answer (List ℕ)
behind_symbol bytes = first_item bytes >>= λ item. Ok (behind item bytes)

-- Records of symbols stand one behind another as those of a table do, each behind a u16 with its length; these are the
-- bytes behind the last one that is whole.
unfoldable pub behind_symbols : List ℕ → List ℕ
behind_symbols stream = rest (length stream) stream

-- the mismatches of the stream of records: these end where it does, or one is cut
abbrev pub symbols_mismatches : ℕ → List ℕ → List Mismatch
symbols_mismatches number stream =
    fields_mismatches (Some number)
    (word_field (length stream - length (behind_symbols stream)) (not (length (behind_symbols stream) == 0)) SymbolCut
    ∷ [])
