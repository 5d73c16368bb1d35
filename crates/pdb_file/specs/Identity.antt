-- What identifies a file: the numbers of stream 1, and the header of stream 3 if the file has one.
use Rattle.std.specs.Prelude.{ℕ, ◌==◌, ◌||◌, if◌then◌else◌, Bool, List, [], ◌∷◌, codes, Option, Some, None, Ok, Err}
use Rattle.std.specs.Option.{option_map, option_map_or}
use Rattle.std.specs.Result.{result_ok}
use Rattle.pdb_base.specs.Refusal.{stream_not_found}
use Rattle.pdb_base.specs.Answer.{Answer, ◌>>=◌}
use Rattle.pdb_base.specs.Bits.{is_bit_set}
use Rattle.pdb_msf.specs.Header.{Head}
use Rattle.pdb_msf.specs.File.{stream_of}
use Rattle.pdb_file.specs.DbiHeader.{dbi_header_of, header_size}
use Rattle.pdb_file.specs.Features.{features_of}
use Rattle.pdb_file.specs.File.{debug_stream, file_information}
use Rattle.pdb_file.specs.declared.dbi_header.DBIHeader.{DBIHeader}
use Rattle.pdb_file.specs.declared.identity.Identity.{Identity}
use Rattle.uuid.specs.Parts.{swap_fields}

-- the bytes of a stream, or None if the file has no stream of its number
abbrev pub if_present : Answer (List ℕ) → Answer (Option (List ℕ))
if_present (Ok stream) = Ok (Some stream)
if_present (Err (stream_not_found number)) = Ok None
if_present (Err refusal) = Err refusal

-- the header at the front of the stream of debug information, or None if there is no stream or no byte in it
abbrev pub header_in : Option (List ℕ) → Answer (Option DBIHeader)
header_in None = Ok None
header_in (Some []) = Ok None
header_in (Some (first ∷ rest)) = dbi_header_of (first ∷ rest) >>= λ header. Ok (Some header)

-- the header of stream 3 of a file, or None if it has none
unfoldable pub file_debug_header : List ℕ → Head → Answer (Option DBIHeader)
file_debug_header file head = if_present (stream_of file head debug_stream (Some header_size)) >>= header_in

-- What identifies a file. Stream 1 stores the first three fields of the GUID with their lowest byte first. If it ends
-- too soon for the names before the features, these are None.
unfoldable pub file_identity : List ℕ → Head → Answer Identity
file_identity file head = do
  information ← file_information file head
  header ← file_debug_header file head
  Ok (record {
    guid = swap_fields information.guid;
    version = information.version;
    signature = information.signature;
    information_age = information.age;
    features = result_ok (features_of information);
    debug_header = header;
  })

-- the age of a file: that of its debug information, or that of stream 1 if there is none
abbrev pub age_in : ℕ → Option DBIHeader → ℕ
age_in information_age (Some header) = header.age
age_in information_age None = information_age

abbrev pub age_of : Identity → ℕ
age_of identity = age_in identity.information_age identity.debug_header

-- ---- what its header says of the program

-- the number of the machine for which the program is
abbrev pub machine_of : Identity → Option ℕ
machine_of identity = option_map (λ header. header.machine_type) identity.debug_header

-- whether private symbols are taken out of the file, which bit 1 of the flags says
abbrev pub stripped_in : DBIHeader → Bool
stripped_in header = is_bit_set header.flags 1

abbrev pub stripped_of : Identity → Option Bool
stripped_of identity = option_map stripped_in identity.debug_header

-- the name that Breakpad has for a machine of a number (`IMAGE_FILE_HEADER` of an image has the same numbers)
unfoldable pub cpu_name : ℕ → List ℕ
cpu_name machine =
    if machine == 0x14c then codes "x86"
    else if machine == 0x8664 then codes "x86_64"
    else if machine == 0xaa64 then codes "arm64"
    else if machine == 0x1c0 || machine == 0x1c4 then codes "arm"
    else codes "unknown"

-- the name for the machine of a file; one without debug information doesn't say any
abbrev pub cpu_of : Identity → List ℕ
cpu_of identity = option_map_or cpu_name (machine_of identity) (codes "unknown")
