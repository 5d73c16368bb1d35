-- The address map of a file, or one made from given streams.
use Rattle.std.specs.Prelude.{ℕ, ◌&&◌, if◌then◌else◌, Bool, List, [], Ok, unwrap_or}
use Rattle.std.specs.Option.{is_none}
use Rattle.pdb_base.specs.Answer.{Answer, ◌>>=◌}
use Rattle.pdb_msf.specs.Header.{Head}
use Rattle.pdb_file.specs.File.{file_address_map, omap_numbered, sections_numbered}
use Rattle.pdb_space.specs.Conversions.{AddressMapValue}
use Rattle.pdbdump_tables.specs.declared.map_source.MapStreams.{MapStreams}

-- the address map made from given streams
unfoldable pub given_map : List ℕ → Head → MapStreams → Answer AddressMapValue
given_map file head streams = do
  sections ← sections_numbered file head streams.sections
  transformed ← sections_numbered file head streams.transformed
  to_original ← omap_numbered file head streams.to_original
  to_transformed ← omap_numbered file head streams.to_transformed
  Ok (record {
    original_sections = unwrap_or sections [];
    transformed_sections = transformed;
    transformed_to_original =
        to_original;
    original_to_transformed = to_transformed;
  })

-- whether no stream is given
abbrev pub gives_none : MapStreams → Bool
gives_none streams = is_none streams.sections && is_none streams.transformed && is_none streams.to_original
    && is_none streams.to_transformed

-- the address map made from given streams, or the file's own if none is given
unfoldable pub map_in : List ℕ → Head → MapStreams → Answer AddressMapValue
map_in file head streams = if gives_none streams then file_address_map file head else given_map file head streams
