-- Codes of findings, under which programs tell of them.
use Rattle.std.specs.Prelude.{ℕ, List, [], ◌++◌, codes, Option, Some, None}
use Rattle.pdb_base.specs.Refusal.{Refusal, unexpected_eof, io_error, page_reference_out_of_range, invalid_page_size}
use Rattle.pdb_base.specs.Refusal.{stream_not_found}
use Rattle.pdb_validation.specs.Finding.{FaultPlace}
use Rattle.pdb_validation.specs.Problem.{ProblemValue, failure, inconsistent}
use Rattle.pdb_validation.specs.declared.finding.Code.{Code}
use Rattle.pdb_validation.specs.declared.finding.Part.{Part}
use Rattle.pdb_validation.specs.declared.finding.Part.TheVariants as parts
use Rattle.pdb_validation.specs.declared.inconsistency.Inconsistency.{Inconsistency}
use Rattle.pdb_validation.specs.declared.inconsistency.Inconsistency.TheVariants as kinds

-- the code of a part
abbrev pub part_code : Part → List ℕ
part_code parts.Header = codes "HEADER"
part_code parts.Directory = codes "DIRECTORY"
part_code parts.Sizes = codes "SIZES"
part_code parts.Stream = codes "STREAM"
part_code parts.Names = codes "NAMES"
part_code parts.StringTable = codes "STRING-TABLE"
part_code parts.Roles = codes "ROLES"
part_code parts.Types = codes "TYPES"
part_code parts.Ids = codes "IDS"
part_code parts.SectionHeaders = codes "SECTION-HEADERS"
part_code parts.OriginalSectionHeaders = codes "ORIGINAL-SECTION-HEADERS"
part_code parts.OmapToSource = codes "OMAP-TO-SOURCE"
part_code parts.OmapFromSource = codes "OMAP-FROM-SOURCE"
part_code parts.OldFrames = codes "OLD-FRAMES"
part_code parts.NewFrames = codes "NEW-FRAMES"

-- that a fault is at a record
abbrev pub record_code : Option ℕ → List ℕ
record_code (Some index) = codes "-RECORD"
record_code None = []

-- what an error is, for a code: that bytes end too soon, that the number of a page or the size of pages is none, or
-- that a stream is missing; and nothing for all others
abbrev pub error_code : Refusal → List ℕ
error_code unexpected_eof = codes "-CUT"
error_code (io_error kind) = codes "-CUT"
error_code (page_reference_out_of_range page) = codes "-PAGE-RANGE"
error_code (invalid_page_size size) = codes "-PAGE-SIZE"
error_code (stream_not_found number) = codes "-MISSING"
error_code other = []

-- the code of what is inconsistent
abbrev pub inconsistency_code : Inconsistency → List ℕ
inconsistency_code kinds.DirectoryTooLarge = codes "DIRECTORY-TOO-LARGE"
inconsistency_code kinds.StreamsTooLarge = codes "STREAMS-TOO-LARGE"
inconsistency_code kinds.OutOfOrder = codes "OUT-OF-ORDER"
inconsistency_code (kinds.PageShared page) = codes "PAGE-SHARED"
inconsistency_code (kinds.PageFree page) = codes "PAGE-FREE"
inconsistency_code (kinds.StreamMissing stream) = codes "STREAM-MISSING"
inconsistency_code kinds.DebugSizes = codes "DEBUG-SIZES"
inconsistency_code (kinds.ReferenceNotBelow index) = codes "REFERENCE-NOT-BELOW"
inconsistency_code kinds.RecordUnaligned = codes "RECORD-UNALIGNED"
inconsistency_code (kinds.KindNotRead kind) = codes "KIND-NOT-READ"
inconsistency_code (kinds.HashCount count) = codes "HASH-COUNT"
inconsistency_code (kinds.HashTooLarge value) = codes "HASH-TOO-LARGE"
inconsistency_code (kinds.IndexOffset index) = codes "INDEX-OFFSET"
inconsistency_code kinds.BucketsCut = codes "BUCKETS-CUT"
inconsistency_code (kinds.NameOffset offset) = codes "NAME-OFFSET"
inconsistency_code (kinds.NameCount count) = codes "NAME-COUNT"
inconsistency_code kinds.SectionsOverlap = codes "SECTIONS-OVERLAP"
inconsistency_code (kinds.FreePageMap number) = codes "FREE-PAGE-MAP"
inconsistency_code (kinds.PageCount count) = codes "PAGE-COUNT"
inconsistency_code (kinds.UnknownVersion version) = codes "UNKNOWN-VERSION"
inconsistency_code (kinds.UnknownMachine machine) = codes "UNKNOWN-MACHINE"
inconsistency_code (kinds.NamedStreamCount count) = codes "NAMED-STREAM-COUNT"
inconsistency_code (kinds.RecordBytes number) = codes "RECORD-BYTES"
inconsistency_code (kinds.HashSize size) = codes "HASH-SIZE"
inconsistency_code kinds.NoHashStream = codes "NO-HASH-STREAM"
inconsistency_code (kinds.HashPart size) = codes "HASH-PART"
inconsistency_code (kinds.NameUnreached offset) = codes "NAME-UNREACHED"
inconsistency_code kinds.ModuleCut = codes "MODULE-CUT"
inconsistency_code (kinds.ModuleSizes stream) = codes "MODULE-SIZES"
inconsistency_code (kinds.SymbolHashVersion version) = codes "SYMBOL-HASH-VERSION"
inconsistency_code kinds.SymbolHashSizes = codes "SYMBOL-HASH-SIZES"
inconsistency_code kinds.PublicSizes = codes "PUBLIC-SIZES"
inconsistency_code kinds.SymbolCut = codes "SYMBOL-CUT"

-- The code of a fault: of an error the code of its part, that it is at a record if it is, and which error it is; of
-- what is inconsistent its own.
abbrev pub code_by : Part → Option ℕ → ProblemValue → List ℕ
code_by part index (failure refusal) = part_code part ++ record_code index ++ error_code refusal
code_by part index (inconsistent what) = inconsistency_code what

abbrev pub fault_code : FaultPlace → List ℕ
fault_code fault = code_by fault.part fault.index fault.problem

abbrev pub code_text : Code → List ℕ
code_text code = code.part.now ++ code.record.now ++ code.kind.now
