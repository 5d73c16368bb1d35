-- The header of stream 3 (`NewDBIHdr` in Microsoft's dbi.h): the parts have as many bytes together as the stream, and
-- the version and the machine are known.
use Rattle.std.specs.Prelude.{ℕ, ◌+◌, ◌==◌, not, List, [], ◌∷◌, length, sum, Some, None, Ok, Err}
use Rattle.pdb_base.specs.Answer.{Answer}
use Rattle.pdb_file.specs.DbiHeader.{dbi_header_of}
use Rattle.pdb_file.specs.DebugHeader.{sizes_before}
use Rattle.pdb_file.specs.declared.dbi_header.DBIHeader.{DBIHeader}
use Rattle.pdb_validation.specs.HeaderFields.{debug_versions, fields_mismatches, is_one_of, known_machines}
use Rattle.pdb_validation.specs.declared.header_fields.FieldCheck.{FieldCheck}
use Rattle.pdb_validation.specs.declared.inconsistency.Inconsistency.TheVariants.{DebugSizes, UnknownMachine}
use Rattle.pdb_validation.specs.declared.inconsistency.Inconsistency.TheVariants.{UnknownVersion}
use Rattle.pdb_validation.specs.declared.mismatch.Mismatch.{Mismatch}

-- the size of the parts before the debug header, and of the debug header
abbrev pub parts_size : DBIHeader → ℕ
parts_size header = sum (sizes_before header) + header.debug_header_size

-- the fields of a stream of a size, if it has a header
abbrev pub debug_fields : ℕ → Answer DBIHeader → List FieldCheck
debug_fields size (Ok header) =
    record { is_wrong = not (parts_size header == size); byte = None; what = DebugSizes }
    ∷ record {
      is_wrong = not (is_one_of debug_versions header.version);
      byte = Some 4;
      what = UnknownVersion header.version;
    }
    ∷ record {
      is_wrong = not (is_one_of known_machines header.machine_type);
      byte = Some 58;
      what = UnknownMachine header.machine_type;
    }
    ∷ []
debug_fields size (Err refusal) = []

unfoldable pub debug_header_mismatches : List ℕ → List Mismatch
debug_header_mismatches stream = fields_mismatches (Some 3) (debug_fields (length stream) (dbi_header_of stream))
