-- The list of modules in stream 3 (`MODI_60_Persist` in Microsoft's dbi.h, `ModuleInfoHeader` in LLVM): entries laid
-- end to end that fill their part, each with the stream of its module.
use Rattle.std.specs.Prelude.{ℕ, zero, suc, ◌+◌, ◌-◌, ◌*◌, nat_lt, List, [], ◌∷◌, ◌++◌, length, take, drop}
use Rattle.std.specs.Prelude.{Option, Some, None, Ok, Err}
use Rattle.std.specs.Bool.{then_some}
use Rattle.std.specs.Int.{div_ceil}
use Rattle.std.specs.Option.{option_map, option_to_list}
use Rattle.pdb_base.specs.Answer.{Answer, ◌>>=◌}
use Rattle.pdb_base.specs.Index.{stream_number}
use Rattle.pdb_base.specs.Reading.{front_at, number_in, text_at, word_at}
use Rattle.pdb_base.specs.Refusal.{stream_not_found}
use Rattle.pdb_file.specs.DbiHeader.{dbi_header_of}
use Rattle.pdb_file.specs.declared.dbi_header.DBIHeader.{DBIHeader}
use Rattle.pdb_msf.specs.Layout.{LayoutValue, size_by}
use Rattle.pdb_validation.specs.Records.{at_byte}
use Rattle.pdb_validation.specs.declared.inconsistency.Inconsistency.{Inconsistency}
use Rattle.pdb_validation.specs.declared.inconsistency.Inconsistency.TheVariants.{ModuleCut, ModuleSizes}
use Rattle.pdb_validation.specs.declared.inconsistency.Inconsistency.TheVariants.{StreamMissing}
use Rattle.pdb_validation.specs.declared.mismatch.Mismatch.{Mismatch}

-- ---- one entry

-- The size of the entry at the front of bytes: 64 bytes of fields, the module's name and that of its object file, each
-- with the NUL that ends it, and what is left up to a multiple of four.
unfoldable pub entry_size : List ℕ → Answer ℕ
entry_size bytes = do
  fields ← front_at 64 bytes
  name ← text_at fields.1
  object ← text_at name.1
  Ok (div_ceil (length bytes - length object.1) 4 * 4)

-- the entry at the front of bytes, and the bytes behind it
unfoldable pub module_at : List ℕ → Answer (List ℕ × List ℕ)
module_at bytes = entry_size bytes >>= λ size. front_at size bytes

-- how many bytes the module's symbols, its lines in the older format and its lines take, which its stream begins with
abbrev pub module_bytes : List ℕ → ℕ
module_bytes entry = word_at 36 entry + word_at 40 entry + word_at 44 entry

-- what is inconsistent in the stream of a number, which has a size if it is there, and of which so many bytes are taken
abbrev pub if_taken : ℕ → ℕ → Answer ℕ → Option Inconsistency
if_taken number taken (Ok size) = then_some (nat_lt size taken) (ModuleSizes number)
if_taken number taken (Err (stream_not_found n)) = Some (StreamMissing number)
if_taken number taken (Err refusal) = None

abbrev pub if_numbered : LayoutValue → ℕ → Option ℕ → Option Inconsistency
if_numbered layout taken None = None
if_numbered layout taken (Some number) = if_taken number taken (size_by layout number)

-- An entry that names a stream names one that is there and has as many bytes as the entry says.
abbrev pub entry_inconsistency : LayoutValue → List ℕ → Option Inconsistency
entry_inconsistency layout entry = if_numbered layout (module_bytes entry) (stream_number (number_in 2 34 entry))

abbrev pub entry_mismatches : LayoutValue → ℕ → ℕ → List ℕ → List Mismatch
entry_mismatches layout index byte entry =
    option_to_list (option_map (at_byte 3 index byte) (entry_inconsistency layout entry))

-- ---- all entries

-- those of the entry at the front of bytes and of what is behind it, or that this one is cut
abbrev pub with_entry : ℕ → ℕ → (List ℕ × List ℕ → List Mismatch) → Answer (List ℕ × List ℕ) → List Mismatch
with_entry index byte within (Ok entry) = within entry
with_entry index byte within (Err refusal) = at_byte 3 index byte ModuleCut ∷ []

-- The mismatches of the entries in bytes, at most `most` of them. The first one has an index, and begins at a byte of
-- stream 3. Behind one that is cut there are no others.
abbrev pub entries_mismatches : LayoutValue → ℕ → ℕ → ℕ → List ℕ → List Mismatch
entries_mismatches layout most index byte [] = []
entries_mismatches layout zero index byte (b ∷ bytes) = []
entries_mismatches layout (suc most) index byte (b ∷ bytes) =
    with_entry index byte
    (λ entry. entry_mismatches layout index byte entry.0
    ++ entries_mismatches layout most (index + 1) (byte + length entry.0) entry.1)
    (module_at (b ∷ bytes))

-- the part of stream 3 with the list, behind the header, as much of it as there is
abbrev pub module_list : List ℕ → DBIHeader → List ℕ
module_list stream header = take header.module_list_size (drop 64 stream)

abbrev pub if_header : LayoutValue → List ℕ → Answer DBIHeader → List Mismatch
if_header layout stream (Ok header) =
    entries_mismatches layout (length (module_list stream header)) 0 64 (module_list stream header)
if_header layout stream (Err refusal) = []

-- the mismatches of the modules in stream 3
unfoldable pub modules_mismatches : LayoutValue → List ℕ → List Mismatch
modules_mismatches layout stream = if_header layout stream (dbi_header_of stream)
