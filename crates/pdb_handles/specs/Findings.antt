-- What is found wrong in a file, as a caller sees it.
use Rattle.std.specs.Prelude.{ℕ, ◌==◌, if◌then◌else◌, is_some, unwrap_or, List, map, Ok}
use Rattle.pdb_base.specs.Answer.{Answer}
use Rattle.pdb_validation.specs.Finding.{FaultPlace}
use Rattle.pdb_validation.specs.Problem.{ProblemValue, failure, inconsistent, is_tolerated}
use Rattle.pdb_validation.specs.Whole.{faults_of}
use Rattle.pdb_validation.specs.declared.finding.Part.{Part}
use Rattle.pdb_validation.specs.declared.finding.Part.TheVariants as parts
use Rattle.pdb_validation.specs.declared.inconsistency.Inconsistency.{Inconsistency}
use Rattle.pdb_validation.specs.declared.inconsistency.Inconsistency.TheVariants as kinds
use Rattle.pdb_validation.specs.declared.mismatch.Extent.{Extent}
use Rattle.pdb_validation.specs.declared.mismatch.Extent.TheVariants.{First, All}
use Rattle.pdb_handles.specs.declared.findings.FoundFault.{FoundFault}
use Rattle.pdb_handles.specs.declared.fault.Fault.{Fault}
use Rattle.pdb_handles.specs.Fault.{fault_of_refusal, fine}
use Rattle.pdb_handles.specs.Frame.{flag}

-- the number of a part
abbrev pub part_number : Part → ℕ
part_number parts.Header = 0
part_number parts.Directory = 1
part_number parts.Sizes = 2
part_number parts.Stream = 3
part_number parts.Names = 4
part_number parts.StringTable = 5
part_number parts.Roles = 6
part_number parts.Types = 7
part_number parts.Ids = 8
part_number parts.SectionHeaders = 9
part_number parts.OriginalSectionHeaders = 10
part_number parts.OmapToSource = 11
part_number parts.OmapFromSource = 12
part_number parts.OldFrames = 13
part_number parts.NewFrames = 14

-- the number of what is inconsistent, and the number that goes with it, or 0
abbrev pub inconsistency_numbers : Inconsistency → ℕ × ℕ
inconsistency_numbers kinds.DirectoryTooLarge = (1, 0)
inconsistency_numbers kinds.StreamsTooLarge = (2, 0)
inconsistency_numbers kinds.OutOfOrder = (3, 0)
inconsistency_numbers (kinds.PageShared page) = (4, page)
inconsistency_numbers (kinds.PageFree page) = (5, page)
inconsistency_numbers (kinds.StreamMissing stream) = (6, stream)
inconsistency_numbers kinds.DebugSizes = (7, 0)
inconsistency_numbers (kinds.ReferenceNotBelow index) = (8, index)
inconsistency_numbers kinds.RecordUnaligned = (9, 0)
inconsistency_numbers (kinds.KindNotRead kind) = (10, kind)
inconsistency_numbers (kinds.HashCount count) = (11, count)
inconsistency_numbers (kinds.HashTooLarge value) = (12, value)
inconsistency_numbers (kinds.IndexOffset index) = (13, index)
inconsistency_numbers kinds.BucketsCut = (14, 0)
inconsistency_numbers (kinds.NameOffset offset) = (15, offset)
inconsistency_numbers (kinds.NameCount count) = (16, count)
inconsistency_numbers kinds.SectionsOverlap = (17, 0)
inconsistency_numbers (kinds.FreePageMap number) = (18, number)
inconsistency_numbers (kinds.PageCount count) = (19, count)
inconsistency_numbers (kinds.UnknownVersion version) = (20, version)
inconsistency_numbers (kinds.UnknownMachine machine) = (21, machine)
inconsistency_numbers (kinds.NamedStreamCount count) = (22, count)
inconsistency_numbers (kinds.RecordBytes number) = (23, number)
inconsistency_numbers (kinds.HashSize size) = (24, size)
inconsistency_numbers kinds.NoHashStream = (25, 0)
inconsistency_numbers (kinds.HashPart size) = (26, size)
inconsistency_numbers (kinds.NameUnreached offset) = (27, offset)
inconsistency_numbers kinds.ModuleCut = (28, 0)
inconsistency_numbers (kinds.ModuleSizes stream) = (29, stream)
inconsistency_numbers (kinds.SymbolHashVersion version) = (30, version)
inconsistency_numbers kinds.SymbolHashSizes = (31, 0)
inconsistency_numbers kinds.PublicSizes = (32, 0)
inconsistency_numbers kinds.SymbolCut = (33, 0)

-- what is wrong in numbers: those of what is inconsistent, or 0 and 0, and the fault of an error
abbrev pub problem_numbers : ProblemValue → (ℕ × ℕ) × Fault
problem_numbers (failure refusal) = ((0, 0), fault_of_refusal refusal)
problem_numbers (inconsistent what) = (inconsistency_numbers what, fine)

-- the fault of a part, for the caller
abbrev pub finding_of : FaultPlace → FoundFault
finding_of found = record {
  index = unwrap_or found.index 0;
  byte = unwrap_or found.byte 0;
  file_byte = unwrap_or found.file_byte 0;
  part = part_number found.part;
  has_stream = flag (is_some found.stream);
  stream = unwrap_or found.stream 0;
  has_index = flag (is_some found.index);
  has_byte = flag (is_some found.byte);
  has_file_byte = flag (is_some found.file_byte);
  is_warning = flag (is_tolerated found.problem);
  inconsistency = (problem_numbers found.problem).0.0;
  number = (problem_numbers found.problem).0.1;
  fault = (problem_numbers found.problem).1;
}

-- how much of each part is told: the first thing for 0, and everything for any other number
abbrev pub extent_of : ℕ → Extent
extent_of every = if every == 0 then First else All

-- what is found wrong in a file, for the caller
abbrev pub findings_said : ℕ → List ℕ → Answer (List FoundFault)
findings_said every file = Ok (map finding_of (faults_of (extent_of every) file))
