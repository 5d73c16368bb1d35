-- What is inconsistent between the parts of a file, as far as these can be read.
use Rattle.std.specs.Prelude.{◌≡◌, ℕ, not, filter, ⊤, List, [], ◌∷◌, ◌++◌, map, Option, Some, None, Ok, Err}
use Rattle.pdb_base.specs.Answer.{Answer, ◌>>=◌}
use Rattle.pdb_base.specs.Index.{stream_number}
use Rattle.pdb_msf.specs.Layout.{LayoutValue, stream_by}
use Rattle.pdb_file.specs.DbiHeader.{dbi_header_of}
use Rattle.pdb_file.specs.DebugHeader.{extra_streams_of}
use Rattle.pdb_file.specs.Information.{information_of}
use Rattle.pdb_file.specs.SectionHeaders.{section_headers_of}
use Rattle.pdb_file.specs.StreamNames.{stream_names_of}
use Rattle.pdb_file.specs.declared.dbi_header.DBIHeader.{DBIHeader}
use Rattle.pdb_file.specs.declared.debug_header.DBIExtraStreams.{DBIExtraStreams}
use Rattle.pdb_tpi.specs.Table.{Table, table_of}
use Rattle.pdb_validation.specs.DebugHeader.{debug_header_mismatches}
use Rattle.pdb_validation.specs.FileHeader.{file_header_mismatches}
use Rattle.pdb_validation.specs.Hashes.{hashes_mismatches}
use Rattle.pdb_validation.specs.Information.{information_mismatches}
use Rattle.pdb_validation.specs.Mismatch.{asked_of, warns}
use Rattle.pdb_validation.specs.MissingStreams.{indexes_mismatches, names_mismatches, role_indexes, symbol_indexes}
use Rattle.pdb_validation.specs.Modules.{modules_mismatches}
use Rattle.pdb_validation.specs.Pages.{page_mismatches}
use Rattle.pdb_validation.specs.Records.{id_inconsistency, table_mismatches, type_inconsistency}
use Rattle.pdb_validation.specs.Sections.{section_mismatches}
use Rattle.pdb_validation.specs.StringTable.{names_mismatches_in}
use Rattle.pdb_validation.specs.Symbols.{globals_mismatches, publics_mismatches, symbols_mismatches}
use Rattle.pdb_validation.specs.TableHeader.{table_header_mismatches}
use Rattle.pdb_validation.specs.declared.inconsistency.Inconsistency.{Inconsistency}
use Rattle.pdb_validation.specs.declared.mismatch.Extent.{Extent}
use Rattle.pdb_validation.specs.declared.mismatch.Mismatch.{Mismatch}
use Rattle.pdb_validation.specs.Finding.{FaultPlace}
use Rattle.pdb_validation.specs.Names.{string_table_number}
use Rattle.pdb_validation.specs.Places.{file_byte, stream_pages}
use Rattle.pdb_validation.specs.Problem.{inconsistent}
use Rattle.pdb_validation.specs.Roles.{known_roles, role_index}
use Rattle.pdb_validation.specs.declared.debug.SymbolStream.{SymbolStream}
use Rattle.pdb_validation.specs.declared.debug.SymbolStream.TheVariants.{Globals, Publics, Records}
use Rattle.pdb_validation.specs.declared.finding.Part.{Part}
use Rattle.pdb_validation.specs.declared.finding.Part.TheVariants as parts

-- ---- what is told

-- the byte of the file that is a byte of a stream, if there are such
abbrev pub file_place : LayoutValue → Option ℕ → Option ℕ → Option ℕ
file_place layout None byte = None
file_place layout (Some number) None = None
file_place layout (Some number) (Some byte) = file_byte (stream_pages layout number) byte

-- what is inconsistent, as a fault of a part
abbrev pub mismatch_fault : LayoutValue → Part → Mismatch → FaultPlace
mismatch_fault layout part mismatch = record {
  part = part;
  stream = mismatch.stream;
  index = mismatch.index;
  byte = mismatch.byte;
  file_byte = file_place layout mismatch.stream mismatch.byte;
  problem = inconsistent mismatch.what;
}

-- all that is inconsistent in a part
pub record Relation : Type 0 where
  pub part : Part
  pub mismatches : List Mismatch

abbrev pub relation : Part → List Mismatch → Relation
relation part mismatches = record { part = part; mismatches = mismatches }

-- what is told of a relation: the first error, or else the first warning; or everything
abbrev pub relation_faults : Extent → LayoutValue → Relation → List FaultPlace
relation_faults extent layout related =
    map (mismatch_fault layout related.part) (asked_of extent related.mismatches)

-- faults, and behind them those of relations
abbrev pub with_relations : Extent → LayoutValue → List Relation → List FaultPlace → List FaultPlace
with_relations extent layout [] faults = faults
with_relations extent layout (related ∷ more) faults =
    with_relations extent layout more (faults ++ relation_faults extent layout related)

-- Nothing that is inconsistent is an error.
abbrev pub IsConsistent : Relation → Type 0
IsConsistent related = filter (λ mismatch. not (warns mismatch)) related.mismatches ≡ []

abbrev pub AreConsistent : List Relation → Type 0
AreConsistent [] = ⊤
AreConsistent (related ∷ more) = IsConsistent related × AreConsistent more

-- ---- the relations

-- the mismatches within what can be read
abbrev pub if_answered : {A : Type 0} → (A → List Mismatch) → Answer A → List Mismatch
if_answered within (Ok x) = within x
if_answered within (Err refusal) = []

-- the same within a table in a stream
abbrev pub in_table : (Table → List Mismatch) → Answer (List ℕ) → List Mismatch
in_table within stream = if_answered (λ bytes. if_answered within (table_of bytes)) stream

-- the end of the indexes of types; each index is below it, if there is no table of types
abbrev pub end_of_types : Answer Table → ℕ
end_of_types (Ok table) = table.header.maximum_index
end_of_types (Err refusal) = 0xffffffff

abbrev pub end_in : Answer (List ℕ) → ℕ
end_in (Ok stream) = end_of_types (table_of stream)
end_in (Err refusal) = 0xffffffff

unfoldable pub types_end : LayoutValue → List ℕ → ℕ
types_end layout file = end_in (stream_by layout file 2 None)

-- the hash stream of a table, if there is one
abbrev pub hashes_by : LayoutValue → List ℕ → Table → Option ℕ → List Mismatch
hashes_by layout file table None = []
hashes_by layout file table (Some number) =
    if_answered (hashes_mismatches number table) (stream_by layout file number None)

abbrev pub hashes_in : LayoutValue → List ℕ → Table → List Mismatch
hashes_in layout file table = hashes_by layout file table (stream_number table.header.tpi_hash_stream)

-- the streams that have names
unfoldable pub named_streams : LayoutValue → List ℕ → List Mismatch
named_streams layout stream =
    if_answered (λ information. if_answered (names_mismatches layout) (stream_names_of information))
    (information_of stream)

-- the string table, if stream 1 names one
abbrev pub buckets_of : LayoutValue → List ℕ → Option ℕ → List Mismatch
buckets_of layout file None = []
buckets_of layout file (Some number) = if_answered (names_mismatches_in number) (stream_by layout file number None)

-- the number of the stream of the string table, if there is one
abbrev pub table_number : Answer (Option ℕ) → Option ℕ
table_number (Ok number) = number
table_number (Err refusal) = None

unfoldable pub buckets_relation : LayoutValue → List ℕ → List Mismatch
buckets_relation layout file =
    if_answered (λ stream. buckets_of layout file (table_number (string_table_number stream)))
    (stream_by layout file 1 None)

-- the streams that have roles in stream 3
unfoldable pub roles_in_stream : LayoutValue → List ℕ → List Mismatch
roles_in_stream layout stream =
    if_answered (λ header. if_answered (λ roles.
    indexes_mismatches layout 3 (symbol_indexes header) ++ indexes_mismatches layout 3 (role_indexes roles))
    (extra_streams_of stream)) (dbi_header_of stream)

-- the index of a stream of symbols, and the mismatches in its bytes
abbrev pub symbol_index : SymbolStream → DBIHeader → ℕ
symbol_index Globals header = header.gs_symbols_stream.0
symbol_index Publics header = header.ps_symbols_stream.0
symbol_index Records header = header.symbol_records_stream.0

abbrev pub symbol_mismatches : SymbolStream → ℕ → List ℕ → List Mismatch
symbol_mismatches Globals number stream = globals_mismatches number stream
symbol_mismatches Publics number stream = publics_mismatches number stream
symbol_mismatches Records number stream = symbols_mismatches number stream

-- a stream of symbols, if it has a number
abbrev pub symbols_by : LayoutValue → List ℕ → SymbolStream → Option ℕ → List Mismatch
symbols_by layout file symbols None = []
symbols_by layout file symbols (Some number) =
    if_answered (symbol_mismatches symbols number) (stream_by layout file number None)

abbrev pub symbols_in : LayoutValue → List ℕ → SymbolStream → DBIHeader → List Mismatch
symbols_in layout file symbols header =
    symbols_by layout file symbols (stream_number (symbol_index symbols header))

-- the sections in the stream of a role
abbrev pub sections_in : LayoutValue → List ℕ → Option ℕ → List Mismatch
sections_in layout file None = []
sections_in layout file (Some number) =
    if_answered (λ stream. if_answered (section_mismatches number 0 0) (section_headers_of stream))
    (stream_by layout file number None)

abbrev pub sections_by : LayoutValue → List ℕ → Part → Option DBIExtraStreams → List Mismatch
sections_by layout file part None = []
sections_by layout file part (Some roles) = sections_in layout file (stream_number (role_index part roles))

unfoldable pub sections_relation : LayoutValue → List ℕ → Part → List Mismatch
sections_relation layout file part = sections_by layout file part (known_roles layout file)

-- ---- by kinds of parts

unfoldable pub container_relations : LayoutValue → List ℕ → List Relation
container_relations layout file =
    relation parts.Header (file_header_mismatches layout.head.geometry.page_size file)
    ∷ relation parts.Stream (page_mismatches file) ∷ []

-- the header of a table in the stream of a number, and its hash stream
abbrev pub header_relations : LayoutValue → List ℕ → Part → ℕ → Table → List Relation
header_relations layout file part number table =
    relation part (table_header_mismatches layout number table) ∷ relation part (hashes_in layout file table) ∷ []

-- the records of a table in the stream of a number, in which this is inconsistent, its header and its hash stream
unfoldable pub table_relations : LayoutValue → List ℕ → Part → ℕ → (ℕ → List ℕ → Option Inconsistency) → List Relation
table_relations layout file part number wrong =
    relation part (in_table (table_mismatches number wrong) (stream_by layout file number None))
    ∷ relation part (in_table (table_header_mismatches layout number) (stream_by layout file number None))
    ∷ relation part (in_table (hashes_in layout file) (stream_by layout file number None)) ∷ []

-- the types, and the ids
abbrev pub type_relations : LayoutValue → List ℕ → List Relation
type_relations layout file = table_relations layout file parts.Types 2 type_inconsistency

abbrev pub id_relations : LayoutValue → List ℕ → List Relation
id_relations layout file = table_relations layout file parts.Ids 4 (id_inconsistency (types_end layout file))

-- stream 1, and the streams that it names
unfoldable pub in_information : LayoutValue → Answer (List ℕ) → List Relation
in_information layout stream =
    relation parts.Names (if_answered information_mismatches stream)
    ∷ relation parts.Names (if_answered (named_streams layout) stream) ∷ []

-- the same, and the string table
unfoldable pub name_relations : LayoutValue → List ℕ → List Relation
name_relations layout file = in_information layout (stream_by layout file 1 None)
    ++ relation parts.StringTable (buckets_relation layout file) ∷ []

-- the header, the roles and the modules of stream 3
unfoldable pub in_debug_stream : LayoutValue → Answer (List ℕ) → List Relation
in_debug_stream layout stream =
    relation parts.Roles (if_answered debug_header_mismatches stream)
    ∷ relation parts.Roles (if_answered (roles_in_stream layout) stream)
    ∷ relation parts.Roles (if_answered (modules_mismatches layout) stream) ∷ []

abbrev pub debug_relations : LayoutValue → List ℕ → List Relation
debug_relations layout file = in_debug_stream layout (stream_by layout file 3 None)

-- the streams of symbols, which the header of stream 3 gives
unfoldable pub in_symbol_streams : LayoutValue → List ℕ → Answer DBIHeader → List Relation
in_symbol_streams layout file header =
    relation parts.Roles (if_answered (symbols_in layout file Globals) header)
    ∷ relation parts.Roles (if_answered (symbols_in layout file Publics) header)
    ∷ relation parts.Roles (if_answered (symbols_in layout file Records) header) ∷ []

abbrev pub symbol_relations : LayoutValue → List ℕ → List Relation
symbol_relations layout file = in_symbol_streams layout file (stream_by layout file 3 None >>= dbi_header_of)

unfoldable pub section_relations : LayoutValue → List ℕ → List Relation
section_relations layout file =
    relation parts.SectionHeaders (sections_relation layout file parts.SectionHeaders)
    ∷ relation parts.OriginalSectionHeaders (sections_relation layout file parts.OriginalSectionHeaders) ∷ []

-- faults, and behind them those of all relations
unfoldable pub related_faults : Extent → LayoutValue → List ℕ → List FaultPlace → List FaultPlace
related_faults extent layout file faults =
    with_relations extent layout (section_relations layout file)
    (with_relations extent layout (symbol_relations layout file)
    (with_relations extent layout (debug_relations layout file)
    (with_relations extent layout (name_relations layout file)
    (with_relations extent layout (id_relations layout file)
    (with_relations extent layout (type_relations layout file)
    (with_relations extent layout (container_relations layout file) faults))))))
