-- The streams that a file names, as a caller sees them.
use Rattle.std.specs.Prelude.{ℕ, List, Ok, length, Option, Some, nat_le, codes}
use Rattle.std.specs.List.{flat_map}
use Rattle.pdb_base.specs.Answer.{Answer, ◌>>=◌, ok_if}
use Rattle.pdb_base.specs.Refusal.{unimplemented_feature}
use Rattle.pdb_file.specs.{File.file_information, StreamNames.Named, StreamNames.stream_names_of}
use Rattle.pdb_handles.specs.declared.stream_names.NamedStream.{NamedStream}
use Rattle.pdb_handles.specs.{File.read_of_file, Listing.NamedRows, Listing.ended_names, Listing.placed_rows}

-- a stream and where its name is, for the caller
abbrev pub named_row : ℕ → Named → NamedStream
named_row here named = record { name_offset = here; name_length = length named.name; number = named.stream }

-- the bytes of the names of streams, one name behind another
abbrev pub names_of_all : List Named → List ℕ
names_of_all streams = flat_map (λ named. named.name) streams

-- streams and their names
abbrev pub named_listing : List Named → NamedRows NamedStream
named_listing streams = record {
  rows = placed_rows named_row (λ named. named.name) 0 streams;
  names = ended_names (λ (named : Named). named.name) streams;
}

-- The streams that stream 1 names, in the order of their entries. They are refused if their names together have
-- more bytes than the file, which they can only if they share bytes.
abbrev pub stream_names_said : List ℕ → Answer (Option (NamedRows NamedStream))
stream_names_said file = do
  information ← read_of_file file_information file
  streams ← stream_names_of information
  fit ← ok_if (nat_le (length (names_of_all streams)) (length file))
      (unimplemented_feature (codes "stream names that share bytes"))
  Ok (Some (named_listing streams))
