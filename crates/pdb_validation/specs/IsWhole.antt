-- Whether a file is whole: no definition of this library assigns an error to a part of it.
use Rattle.std.specs.Prelude.{◌≡◌, ℕ, ◌+◌, ◌<◌, ◌≤◌, List, [], ◌∷◌, length, Option, Some, None, Ok, Err, IsOk, ⊤}
use Rattle.pdb_base.specs.Answer.{Answer}
use Rattle.pdb_base.specs.Index.{stream_number}
use Rattle.pdb_base.specs.Refusal.{stream_not_found}
use Rattle.pdb_msf.specs.Layout.{LayoutValue, layout_of, stream_by}
use Rattle.pdb_file.specs.DebugHeader.{extra_streams_of}
use Rattle.pdb_file.specs.declared.debug_header.DBIExtraStreams.{DBIExtraStreams}
use Rattle.pdb_tpi.specs.Steps.{walk, walk_rest}
use Rattle.pdb_tpi.specs.Table.{Table, table_of}
use Rattle.pdb_space.specs.StringTable.{name_of, names_of}
use Rattle.pdb_validation.specs.Names.{string_table_number}
use Rattle.pdb_validation.specs.Relations.{AreConsistent, container_relations, debug_relations, id_relations}
use Rattle.pdb_validation.specs.Relations.{name_relations, section_relations, symbol_relations, type_relations}
use Rattle.pdb_validation.specs.Roles.{known_roles, role_index, role_problem}
use Rattle.pdb_validation.specs.Sizes.{directory_size, streams_size}
use Rattle.pdb_validation.specs.Tables.{checked_id, checked_type}
use Rattle.pdb_validation.specs.declared.finding.Part.{Part}

-- The bytes of a stream can be read, or there is no such stream.
abbrev pub IsReadOrAbsent : Answer (List ℕ) → Type 0
IsReadOrAbsent (Ok stream) = ⊤
IsReadOrAbsent (Err (stream_not_found n)) = ⊤
IsReadOrAbsent (Err refusal) = ⊥

-- The bytes of a stream are so, if they can be read.
abbrev pub IfRead : (List ℕ → Type 0) → Answer (List ℕ) → Type 0
IfRead So (Ok stream) = So stream
IfRead So (Err refusal) = ⊤

-- There is such a stream, and its bytes are so, if they can be read.
abbrev pub IsThere : (List ℕ → Type 0) → Answer (List ℕ) → Type 0
IsThere So (Ok stream) = So stream
IsThere So (Err (stream_not_found n)) = ⊥
IsThere So (Err refusal) = ⊤

-- Each of some items, of which the first has that index, is answered by a definition.
abbrev pub AreFaultless : {A : Type 0} → (ℕ → List ℕ → Answer A) → ℕ → List (List ℕ) → Type 0
AreFaultless means index [] = ⊤
AreFaultless means index (item ∷ items) = IsOk (means index item) × AreFaultless means (index + 1) items

-- Each record of a table is answered by a definition, nothing is left behind the records, and there is a record for
-- each index that the header counts.
pub record HasWholeRecords {A : Type 0} (means : ℕ → List ℕ → Answer A) (table : Table) : Type 0 where
  pub records : AreFaultless means table.header.minimum_index (walk table)
  pub ends : walk_rest table ≡ []
  pub counted : table.header.maximum_index ≤ table.header.minimum_index + length (walk table)

-- The same of the table in a stream.
abbrev pub IsWholeTable : {A : Type 0} → (Table → ℕ → List ℕ → Answer A) → Answer Table → Type 0
IsWholeTable checked (Ok table) = HasWholeRecords (checked table) table
IsWholeTable checked (Err refusal) = ⊥

-- The bytes of a stream are a string table, and there is a name at each byte of its names.
abbrev pub HasWholeNames : Answer (List ℕ) → Type 0
HasWholeNames (Ok names) = (offset : ℕ) → offset < length names → IsOk (name_of names offset)
HasWholeNames (Err refusal) = ⊥

-- The names of streams are there. If one of them is that of the string table, there is one in its stream.
abbrev pub AreNames : LayoutValue → List ℕ → Answer (Option ℕ) → Type 0
AreNames layout file (Ok None) = ⊤
AreNames layout file (Ok (Some number)) = IsThere (λ stream. HasWholeNames (names_of stream))
    (stream_by layout file number None)
AreNames layout file (Err refusal) = ⊥

-- The stream of a number is there, and nothing is wrong with its bytes by the role of the part, if there is a number.
abbrev pub IsNumbered : LayoutValue → List ℕ → Part → Option ℕ → Type 0
IsNumbered layout file part None = ⊤
IsNumbered layout file part (Some number) =
    IsThere (λ stream. role_problem part stream ≡ None) (stream_by layout file number None)

-- The same for the stream of a role, if the roles are known.
abbrev pub HasRole : LayoutValue → List ℕ → Part → Option DBIExtraStreams → Type 0
HasRole layout file part None = ⊤
HasRole layout file part (Some roles) = IsNumbered layout file part (stream_number (role_index part roles))

-- The parts behind the directory of a file are whole: the streams together are no larger than the file, and the bytes
-- of each that is there can be read. Stream 1 is there and names streams, and a string table that it names is one.
-- Stream 3, if it is there, has a header and roles. The tables of types and of ids, if they are there, have whole
-- records. Each stream that has a role of a part is there, and its bytes are section headers, an OMAP table or frames
-- by that role, in their order. Nothing that is inconsistent between these parts is an error.
pub record HasWholeParts (layout : LayoutValue) (file : List ℕ) : Type 0 where
  pub streams_fit : streams_size layout ≤ length file
  pub streams : (n : ℕ) → n < 0xffff → IsReadOrAbsent (stream_by layout file n None)
  pub names : IsThere (λ stream. AreNames layout file (string_table_number stream)) (stream_by layout file 1 None)
  pub roles : IfRead (λ stream. IsOk (extra_streams_of stream)) (stream_by layout file 3 None)
  pub types : IfRead (λ stream. IsWholeTable checked_type (table_of stream)) (stream_by layout file 2 None)
  pub ids : IfRead (λ stream. IsWholeTable (λ table. checked_id) (table_of stream)) (stream_by layout file 4 None)
  pub by_role : (part : Part) → HasRole layout file part (known_roles layout file)
  pub pages_agree : AreConsistent (container_relations layout file)
  pub types_agree : AreConsistent (type_relations layout file)
  pub ids_agree : AreConsistent (id_relations layout file)
  pub names_agree : AreConsistent (name_relations layout file)
  pub roles_agree : AreConsistent (debug_relations layout file)
  pub symbols_agree : AreConsistent (symbol_relations layout file)
  pub sections_agree : AreConsistent (section_relations layout file)

-- The header and the directory of a file can be read, and the parts behind them are whole.
abbrev pub IsWholeBehind : List ℕ → Answer LayoutValue → Type 0
IsWholeBehind file (Ok layout) = HasWholeParts layout file
IsWholeBehind file (Err refusal) = ⊥

-- A file is whole: its directory is no larger than the file, and its parts are whole.
pub record IsWhole (file : List ℕ) : Type 0 where
  pub directory_fits : directory_size file ≤ length file
  pub parts : IsWholeBehind file (layout_of file)
