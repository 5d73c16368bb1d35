-- What is found wrong in a file, part by part.
use Rattle.std.specs.Prelude.{ℕ, nat_lt, if◌then◌else◌, List, [], ◌∷◌, ◌++◌, length, Option, None, Ok, Err}
use Rattle.std.specs.Option.{option_to_list}
use Rattle.pdb_base.specs.Answer.{Answer}
use Rattle.pdb_validation.specs.declared.inconsistency.Inconsistency.TheVariants as kinds
use Rattle.pdb_msf.specs.Header.{Head, file_head}
use Rattle.pdb_msf.specs.Layout.{LayoutValue, layout_of, stream_by}
use Rattle.pdb_file.specs.declared.debug_header.DBIExtraStreams.{DBIExtraStreams}
use Rattle.pdb_tpi.specs.Table.{Table}
use Rattle.pdb_validation.specs.Finding.{FaultPlace, by_extent, file_fault}
use Rattle.pdb_validation.specs.Names.{names_fault}
use Rattle.pdb_validation.specs.Places.{stream_pages}
use Rattle.pdb_validation.specs.Problem.{failure, inconsistent}
use Rattle.pdb_validation.specs.Relations.{related_faults}
use Rattle.pdb_validation.specs.Roles.{known_roles, role_fault, roles_fault}
use Rattle.pdb_validation.specs.Sizes.{directory_size, streams_nameable, streams_size}
use Rattle.pdb_validation.specs.Streams.{if_read, streams_faults}
use Rattle.pdb_validation.specs.Tables.{checked_id, checked_type, faults_in_table}
use Rattle.pdb_validation.specs.declared.mismatch.Extent.{Extent}
use Rattle.pdb_validation.specs.declared.finding.Part.{Part}
use Rattle.pdb_validation.specs.declared.finding.Part.TheVariants as parts

-- the faults of the table in the stream of a number, whose records are to be so
unfoldable pub table_faults_by : Part → ℕ → (Table → ℕ → List ℕ → Answer (Unit {0})) → LayoutValue → List ℕ
    → List FaultPlace
table_faults_by part number checked layout file =
    if_read [] (faults_in_table part number checked (stream_pages layout number)) (stream_by layout file number None)

-- the faults of the bytes of streams, and of the parts whose streams have fixed numbers
unfoldable pub fixed_faults : Extent → LayoutValue → List ℕ → List FaultPlace
fixed_faults extent layout file =
    (((by_extent extent (streams_faults layout file (streams_nameable layout))
    ++ option_to_list (names_fault layout file))
    ++ option_to_list (roles_fault layout file))
    ++ by_extent extent (table_faults_by parts.Types 2 checked_type layout file))
    ++ by_extent extent (table_faults_by parts.Ids 4 (λ table. checked_id) layout file)

-- faults, and behind them the fault of the stream of a role
abbrev pub with_role : LayoutValue → List ℕ → Option DBIExtraStreams → Part → List FaultPlace → List FaultPlace
with_role layout file roles part faults = faults ++ option_to_list (role_fault layout file part roles)

-- faults, and behind them those of the streams of all roles that are read
unfoldable pub with_roles : LayoutValue → List ℕ → Option DBIExtraStreams → List FaultPlace → List FaultPlace
with_roles layout file roles faults =
    with_role layout file roles parts.NewFrames
    (with_role layout file roles parts.OldFrames
    (with_role layout file roles parts.OmapFromSource
    (with_role layout file roles parts.OmapToSource
    (with_role layout file roles parts.OriginalSectionHeaders
    (with_role layout file roles parts.SectionHeaders faults)))))

-- the faults of all parts, each by itself
unfoldable pub refused_faults : Extent → LayoutValue → List ℕ → List FaultPlace
refused_faults extent layout file = with_roles layout file (known_roles layout file) (fixed_faults extent layout file)

-- the same, and behind them what is inconsistent between the parts
unfoldable pub part_faults : Extent → LayoutValue → List ℕ → List FaultPlace
part_faults extent layout file = related_faults extent layout file (refused_faults extent layout file)

-- the faults of all parts, unless the streams are larger than the file, which is then the only one
unfoldable pub sized_faults : Extent → LayoutValue → List ℕ → List FaultPlace
sized_faults extent layout file =
    if nat_lt (length file) (streams_size layout)
    then file_fault parts.Sizes (inconsistent kinds.StreamsTooLarge) ∷ []
    else part_faults extent layout file

-- the faults of all other parts, if the directory can be read, or else that of the directory
abbrev pub faults_by : Extent → List ℕ → Answer LayoutValue → List FaultPlace
faults_by extent file (Ok layout) = sized_faults extent layout file
faults_by extent file (Err refusal) = file_fault parts.Directory (failure refusal) ∷ []

-- the faults behind the header, unless the directory is larger than the file, which is then the only one
unfoldable pub opened_faults : Extent → List ℕ → List FaultPlace
opened_faults extent file =
    if nat_lt (length file) (directory_size file)
    then file_fault parts.Sizes (inconsistent kinds.DirectoryTooLarge) ∷ []
    else faults_by extent file (layout_of file)

-- the faults behind the header, if the header can be read, or else that of the header
abbrev pub faults_behind : Extent → List ℕ → Answer Head → List FaultPlace
faults_behind extent file (Ok head) = opened_faults extent file
faults_behind extent file (Err refusal) = file_fault parts.Header (failure refusal) ∷ []

-- what is found wrong in a file: of each part the first fault, or every one
unfoldable pub faults_of : Extent → List ℕ → List FaultPlace
faults_of extent file = faults_behind extent file (file_head file)
