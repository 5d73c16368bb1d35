-- What identifies a file, as a caller sees it.
use Rattle.std.specs.Prelude.{ℕ, ◌+◌, ◌*◌, ◌==◌, if◌then◌else◌, is_some, List, Option, Some, None, Ok}
use Rattle.std.specs.Option.{option_map_or}
use Rattle.uuid.specs.Parts.{swap_fields}
use Rattle.uuid.specs.Text.{hyphenated_text, upper}
use Rattle.pdb_base.specs.Answer.{Answer, ◌>>=◌}
use Rattle.pdb_file.specs.declared.dbi_header.DBIHeader.{DBIHeader}
use Rattle.pdb_file.specs.declared.features.Features.{Features}
use Rattle.pdb_file.specs.Identity.{age_of, file_identity}
use Rattle.pdb_file.specs.Key.{lower_key, upper_key}
use Rattle.pdb_file.specs.declared.format.Format.{Format}
use Rattle.pdb_file.specs.declared.format.Format.TheVariants as formats
use Rattle.pdb_file.specs.declared.identity.Identity.{Identity}
use Rattle.pdb_handles.specs.declared.identity.FileIdentity.{FileIdentity}
use Rattle.pdb_handles.specs.File.{read_of_file}
use Rattle.pdb_handles.specs.Frame.{flag}

-- a number in the header of the debug information, or 0 if the file has no such header
abbrev pub header_number : (DBIHeader → ℕ) → Option DBIHeader → ℕ
header_number number header = option_map_or number header 0

-- the bits of the features that a file tells of itself, from the lowest on
abbrev pub feature_bits : Features → ℕ
feature_bits features =
    flag features.vc110 + 2 * flag features.vc140 + 4 * flag features.no_type_merge + 8 * flag features.minimal

-- what identifies a file, for the caller; the bytes of the GUID are in the order in which the file stores them
abbrev pub identity_of : Identity → FileIdentity
identity_of identity = record {
  version = identity.version;
  signature = identity.signature;
  age = age_of identity;
  information_age = identity.information_age;
  has_debug_header = flag (is_some identity.debug_header);
  debug_age = header_number (λ header. header.age) identity.debug_header;
  machine = header_number (λ header. header.machine_type) identity.debug_header;
  flags = header_number (λ header. header.flags) identity.debug_header;
  guid = swap_fields identity.guid;
  has_features = flag (is_some identity.features);
  features = option_map_or feature_bits identity.features 0;
}

-- what identifies the file of these bytes, for the caller
abbrev pub identity_said : List ℕ → Answer FileIdentity
identity_said file = read_of_file file_identity file >>= λ identity. Ok (identity_of identity)

-- The text of a key in the form of a number: in upper case, in lower case, or the GUID alone with its hyphens. Other
-- numbers stand for no form.
abbrev pub key_text : ℕ → FileIdentity → Option (List ℕ)
key_text form identity =
    if form == 0 then Some (upper_key (swap_fields identity.guid) identity.age)
    else if form == 1 then Some (lower_key (swap_fields identity.guid) identity.age)
    else if form == 2 then Some (hyphenated_text upper (swap_fields identity.guid))
    else None

-- the number of a format
abbrev pub format_number : Format → ℕ
format_number formats.Unknown = 0
format_number formats.Msf7 = 1
format_number formats.Msf2 = 2
format_number formats.Portable = 3
format_number formats.Compressed = 4
format_number formats.Image = 5
