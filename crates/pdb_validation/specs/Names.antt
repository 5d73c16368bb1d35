-- The names of streams in stream 1, and the string table.
use Rattle.std.specs.Prelude.{ℕ, List, [], ◌∷◌, length, Option, Some, None, Ok, Err, codes}
use Rattle.std.specs.Result.{result_ok}
use Rattle.pdb_base.specs.Answer.{Answer, ◌>>=◌}
use Rattle.pdb_msf.specs.Layout.{LayoutValue, stream_by}
use Rattle.pdb_file.specs.Information.{information_of}
use Rattle.pdb_file.specs.StreamNames.{number_named, stream_names_of}
use Rattle.pdb_space.specs.StringTable.{name_of, names_of}
use Rattle.pdb_validation.specs.Finding.{FaultPlace, stream_fault}
use Rattle.pdb_validation.specs.Problem.{failure}
use Rattle.pdb_validation.specs.Streams.{fault_there}
use Rattle.pdb_validation.specs.declared.finding.Part.{Part}
use Rattle.pdb_validation.specs.declared.finding.Part.TheVariants as parts

-- the fault of a part whose bytes cannot be read
abbrev pub fault_of_answer : {A : Type 0} → Part → ℕ → Answer A → Option FaultPlace
fault_of_answer part number (Ok x) = None
fault_of_answer part number (Err refusal) = Some (stream_fault part number (failure refusal))

-- the number of the stream that stream 1 names `/names`, if it names one so
unfoldable pub string_table_number : List ℕ → Answer (Option ℕ)
string_table_number stream = do
  information ← information_of stream
  streams ← stream_names_of information
  Ok (result_ok (number_named (codes "/names") streams))

-- the name at the last of the names' bytes, if there are any
abbrev pub last_name : List ℕ → Answer (Unit {0})
last_name [] = Ok tt
last_name (byte ∷ names) = name_of (byte ∷ names) (length names) >>= λ name. Ok tt

-- a string table whose header is one, and whose names fit in the stream and end with a NUL, so that there is a
-- name at each of their bytes
unfoldable pub whole_names : List ℕ → Answer (Unit {0})
whole_names stream = names_of stream >>= last_name

-- the fault of the string table in the stream of that number
unfoldable pub string_table_fault : LayoutValue → List ℕ → ℕ → Option FaultPlace
string_table_fault layout file number =
    fault_there parts.StringTable number (λ stream. fault_of_answer parts.StringTable number (whole_names stream))
    (stream_by layout file number None)

-- the fault of the names of streams, or that of the string table if there is one
abbrev pub named_fault : LayoutValue → List ℕ → Answer (Option ℕ) → Option FaultPlace
named_fault layout file (Ok None) = None
named_fault layout file (Ok (Some number)) = string_table_fault layout file number
named_fault layout file (Err refusal) = Some (stream_fault parts.Names 1 (failure refusal))

-- the fault of stream 1, of its names, or of the string table
unfoldable pub names_fault : LayoutValue → List ℕ → Option FaultPlace
names_fault layout file = fault_there parts.Names 1 (λ stream. named_fault layout file (string_table_number stream))
    (stream_by layout file 1 None)
