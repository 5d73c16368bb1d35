-- What is found wrong in a file.
use Rattle.std.specs.Prelude.{ℕ, ◌-◌, Bool, true, false, not, List, filter, length, take, Option, Some, None}
use Rattle.pdb_validation.specs.Problem.{ProblemValue, is_tolerated, problem_view}
use Rattle.pdb_validation.specs.declared.mismatch.Extent.{Extent}
use Rattle.pdb_validation.specs.declared.mismatch.Extent.TheVariants as extents
use Rattle.pdb_validation.specs.declared.finding.Finding.{Finding}
use Rattle.pdb_validation.specs.declared.finding.Part.{Part}

-- a part of a file in which something is wrong: the number of the stream, the index of the record, and the byte of
-- the stream and of the file at which the fault is, if there are such, and what is wrong
pub record FaultPlace : Type 0 where
  pub part : Part
  pub stream : Option ℕ
  pub index : Option ℕ
  pub byte : Option ℕ
  pub file_byte : Option ℕ
  pub problem : ProblemValue

abbrev pub finding_view : Finding → FaultPlace
finding_view finding = record {
  part = finding.part;
  stream = finding.stream;
  index = finding.index;
  byte = finding.byte;
  file_byte = finding.file_byte;
  problem = problem_view finding.problem;
}

-- the fault of a part that a stream holds
abbrev pub stream_fault : Part → ℕ → ProblemValue → FaultPlace
stream_fault part stream problem = record {
  part = part;
  stream = Some stream;
  index = None;
  byte = None;
  file_byte = None;
  problem = problem;
}

-- the fault of a record of a stream, which begins at that byte of the stream and of the file
abbrev pub record_fault : Part → ℕ → ℕ → ℕ → Option ℕ → ProblemValue → FaultPlace
record_fault part stream index byte file_byte problem = record {
  part = part;
  stream = Some stream;
  index = Some index;
  byte = Some byte;
  file_byte = file_byte;
  problem = problem;
}

-- the fault of a part that no stream holds
abbrev pub file_fault : Part → ProblemValue → FaultPlace
file_fault part problem = record {
  part = part;
  stream = None;
  index = None;
  byte = None;
  file_byte = None;
  problem = problem;
}

-- those of some faults that are errors
abbrev pub errors_in : List FaultPlace → List FaultPlace
errors_in faults = filter (λ fault. not (is_tolerated fault.problem)) faults

-- how many of some faults are warnings, and how many are errors
abbrev pub warning_count : List FaultPlace → ℕ
warning_count faults = length (filter (λ fault. is_tolerated fault.problem) faults)

abbrev pub error_count : List FaultPlace → ℕ
error_count faults = length faults - warning_count faults

-- ---- how much is told of a part

-- the faults of a part that are told: the first of them, or every one
abbrev pub by_extent : Extent → List FaultPlace → List FaultPlace
by_extent extents.First faults = take 1 faults
by_extent extents.All faults = faults

-- whether no more of a part is told than what is found of it, if anything is
abbrev pub is_enough : Extent → Option FaultPlace → Bool
is_enough extents.First (Some fault) = true
is_enough extent fault = false
