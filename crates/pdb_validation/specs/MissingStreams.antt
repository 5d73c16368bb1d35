-- The streams that have a name in stream 1, or a role in stream 3, are there.
use Rattle.std.specs.Prelude.{ℕ, Bool, true, false, List, [], ◌∷◌, Option, Some, None, Err}
use Rattle.std.specs.Bool.{then_some}
use Rattle.std.specs.List.{flat_map}
use Rattle.std.specs.Option.{option_to_list}
use Rattle.pdb_base.specs.Answer.{Answer}
use Rattle.pdb_base.specs.Index.{stream_number}
use Rattle.pdb_base.specs.Refusal.{stream_not_found}
use Rattle.pdb_base.specs.declared.index.StreamIndex.{StreamIndex}
use Rattle.pdb_file.specs.StreamNames.{Named}
use Rattle.pdb_file.specs.declared.dbi_header.DBIHeader.{DBIHeader}
use Rattle.pdb_file.specs.declared.debug_header.DBIExtraStreams.{DBIExtraStreams}
use Rattle.pdb_msf.specs.Layout.{LayoutValue, size_by}
use Rattle.pdb_validation.specs.declared.inconsistency.Inconsistency.TheVariants.{StreamMissing}
use Rattle.pdb_validation.specs.declared.mismatch.Mismatch.{Mismatch}

-- whether there is no stream whose size this is
abbrev pub is_missing : Answer ℕ → Bool
is_missing (Err (stream_not_found number)) = true
is_missing answer = false

-- the mismatch of the number of a stream, if there is one and the layout has no such stream; a stream says the number
abbrev pub number_mismatch : LayoutValue → ℕ → Option ℕ → Option Mismatch
number_mismatch layout stream None = None
number_mismatch layout stream (Some number) = then_some (is_missing (size_by layout number))
    (record { stream = Some stream; index = None; byte = None; what = StreamMissing number })

-- the same of an index
abbrev pub index_mismatch : LayoutValue → ℕ → ℕ → Option Mismatch
index_mismatch layout stream index = number_mismatch layout stream (stream_number index)

-- the mismatches of indexes that a stream says
unfoldable pub indexes_mismatches : LayoutValue → ℕ → List StreamIndex → List Mismatch
indexes_mismatches layout stream indexes =
    flat_map (λ index. option_to_list (index_mismatch layout stream index.0)) indexes

-- the mismatches of named streams
abbrev pub names_mismatches : LayoutValue → List Named → List Mismatch
names_mismatches layout names = flat_map (λ name. option_to_list (index_mismatch layout 1 name.stream)) names

-- the streams of symbols: by which global ones are found, by which public ones are found, and their records
abbrev pub symbol_indexes : DBIHeader → List StreamIndex
symbol_indexes header = header.gs_symbols_stream ∷ header.ps_symbols_stream ∷ header.symbol_records_stream ∷ []

-- the streams of the eleven roles
abbrev pub role_indexes : DBIExtraStreams → List StreamIndex
role_indexes roles =
    roles.fpo ∷ roles.exception ∷ roles.fixup ∷ roles.omap_to_src ∷ roles.omap_from_src ∷ roles.section_headers
    ∷ roles.token_rid_map ∷ roles.xdata ∷ roles.pdata ∷ roles.framedata ∷ roles.original_section_headers ∷ []
