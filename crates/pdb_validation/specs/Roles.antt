-- Stream 3 and the streams to which it gives roles.
use Rattle.std.specs.Prelude.{ℕ, ◌+◌, Bool, true, ◌&&◌, nat_le, if◌then◌else◌, List, [], ◌∷◌, map, Option, Some, None}
use Rattle.std.specs.Prelude.{Ok, Err}
use Rattle.std.specs.Option.{option_map}
use Rattle.std.specs.Result.{result_ok}
use Rattle.pdb_base.specs.Answer.{Answer}
use Rattle.pdb_base.specs.Index.{no_stream, stream_number}
use Rattle.pdb_validation.specs.declared.inconsistency.Inconsistency.TheVariants as kinds
use Rattle.pdb_msf.specs.Layout.{LayoutValue, stream_by}
use Rattle.pdb_file.specs.DebugHeader.{extra_streams_of}
use Rattle.pdb_file.specs.SectionHeaders.{section_headers_of}
use Rattle.pdb_file.specs.declared.debug_header.DBIExtraStreams.{DBIExtraStreams}
use Rattle.pdb_frames.specs.Merge.{by_heads}
use Rattle.pdb_frames.specs.Table.{frame_table_of}
use Rattle.pdb_frames.specs.declared.frame_data.FrameData.{FrameData}
use Rattle.pdb_space.specs.Omap.{OmapValue, omap_table_of}
use Rattle.pdb_validation.specs.Finding.{FaultPlace, stream_fault}
use Rattle.pdb_validation.specs.Names.{fault_of_answer}
use Rattle.pdb_validation.specs.Problem.{ProblemValue, failure, inconsistent}
use Rattle.pdb_validation.specs.Streams.{fault_there, if_read}
use Rattle.pdb_validation.specs.declared.finding.Part.{Part}
use Rattle.pdb_validation.specs.declared.finding.Part.TheVariants as parts

-- whether each number is above the one before it by `step` or more, and the first at or above `least`
abbrev pub rises : ℕ → ℕ → List ℕ → Bool
rises step least [] = true
rises step least (x ∷ xs) = nat_le least x && rises step (x + step) xs

-- whether the sources of the records of an OMAP table don't decrease
abbrev pub sources_rise : List OmapValue → Bool
sources_rise table = rises 0 0 (map (λ mapping. mapping.source) table)

-- whether the starts of frames increase
abbrev pub starts_rise : List FrameData → Bool
starts_rise frames = rises 1 0 (map (λ frame. frame.code_start) frames)

-- ---- the bytes of one stream

-- what is wrong: the error, or what is wrong in the value
abbrev pub problem_in : {A : Type 0} → (A → Option ProblemValue) → Answer A → Option ProblemValue
problem_in within (Ok x) = within x
problem_in within (Err refusal) = Some (failure refusal)

abbrev pub unless_sorted : Bool → Option ProblemValue
unless_sorted is_sorted = if is_sorted then None else Some (inconsistent kinds.OutOfOrder)

unfoldable pub sections_problem : List ℕ → Option ProblemValue
sections_problem stream = problem_in (λ sections. None) (section_headers_of stream)

-- an OMAP table whose sources don't decrease
unfoldable pub omap_problem : List ℕ → Option ProblemValue
omap_problem stream = problem_in (λ table. unless_sorted (sources_rise table)) (omap_table_of stream)

-- frames whose starts increase; one of the two streams is absent, so that the order is that of the other
unfoldable pub frames_problem : Option (List ℕ) → Option (List ℕ) → Option ProblemValue
frames_problem old new =
    problem_in (λ frames. unless_sorted (starts_rise (by_heads frames.old frames.new))) (frame_table_of old new)

-- what is wrong with the bytes of a stream by its role
unfoldable pub role_problem : Part → List ℕ → Option ProblemValue
role_problem parts.SectionHeaders stream = sections_problem stream
role_problem parts.OriginalSectionHeaders stream = sections_problem stream
role_problem parts.OmapToSource stream = omap_problem stream
role_problem parts.OmapFromSource stream = omap_problem stream
role_problem parts.OldFrames stream = frames_problem (Some stream) None
role_problem parts.NewFrames stream = frames_problem None (Some stream)
role_problem other stream = None

-- ---- the streams by their roles

-- the stream that has the role by which a part is found
unfoldable pub role_index : Part → DBIExtraStreams → ℕ
role_index parts.SectionHeaders roles = roles.section_headers.0
role_index parts.OriginalSectionHeaders roles = roles.original_section_headers.0
role_index parts.OmapToSource roles = roles.omap_to_src.0
role_index parts.OmapFromSource roles = roles.omap_from_src.0
role_index parts.OldFrames roles = roles.fpo.0
role_index parts.NewFrames roles = roles.framedata.0
role_index other roles = no_stream

-- the fault of the stream with a number; none, if there is no number
abbrev pub numbered_fault : LayoutValue → List ℕ → Part → Option ℕ → Option FaultPlace
numbered_fault layout file part None = None
numbered_fault layout file part (Some number) =
    fault_there part number (λ stream. option_map (stream_fault part number) (role_problem part stream))
    (stream_by layout file number None)

-- the fault of the stream of a role, if the roles are known
abbrev pub role_fault : LayoutValue → List ℕ → Part → Option DBIExtraStreams → Option FaultPlace
role_fault layout file part None = None
role_fault layout file part (Some roles) = numbered_fault layout file part (stream_number (role_index part roles))

-- the roles that stream 3 gives, if its bytes can be read and give roles
abbrev pub roles_of_stream : Answer (List ℕ) → Option DBIExtraStreams
roles_of_stream (Ok stream) = result_ok (extra_streams_of stream)
roles_of_stream (Err refusal) = None

unfoldable pub known_roles : LayoutValue → List ℕ → Option DBIExtraStreams
known_roles layout file = roles_of_stream (stream_by layout file 3 None)

-- the fault of stream 3, whose header or roles cannot be read
unfoldable pub roles_fault : LayoutValue → List ℕ → Option FaultPlace
roles_fault layout file = if_read None (λ stream. fault_of_answer parts.Roles 3 (extra_streams_of stream))
    (stream_by layout file 3 None)
