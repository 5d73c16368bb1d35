-- The bytes of each stream.
use Rattle.std.specs.Prelude.{ℕ, List, Option, Some, None, Result, Ok, Err}
use Rattle.std.specs.List.{flat_map, range_with_len}
use Rattle.std.specs.Option.{option_to_list}
use Rattle.pdb_base.specs.Answer.{Answer}
use Rattle.pdb_base.specs.Refusal.{Refusal, refusal_of, stream_not_found}
use Rattle.pdb_base.specs.declared.error.Error.{Error}
use Rattle.pdb_msf.specs.Layout.{LayoutValue, stream_by}
use Rattle.pdb_validation.specs.Finding.{FaultPlace, stream_fault}
use Rattle.pdb_validation.specs.Problem.{failure}
use Rattle.pdb_validation.specs.declared.finding.Part.{Part}
use Rattle.pdb_validation.specs.declared.finding.Part.TheVariants as parts

-- the value or the error of a call for which there was memory
abbrev pub answer_of_call : {X : Type 0} → Result X Error → Answer X
answer_of_call (Ok x) = Ok x
answer_of_call (Err e) = Err (refusal_of e)

-- What is wrong within the bytes of a stream, if they can be read, and else nothing: that they can't is a fault of
-- the part that the bytes of streams are.
abbrev pub if_read : {A : Type 0} → A → (List ℕ → A) → Answer (List ℕ) → A
if_read nothing within (Ok stream) = within stream
if_read nothing within (Err refusal) = nothing

-- the fault of a part whose stream can't be read, if it is that there is no such stream
abbrev pub absence : Part → ℕ → Refusal → Option FaultPlace
absence part number (stream_not_found n) = Some (stream_fault part number (failure (stream_not_found n)))
absence part number refusal = None

-- the same for a stream that must be there
abbrev pub fault_there : Part → ℕ → (List ℕ → Option FaultPlace) → Answer (List ℕ) → Option FaultPlace
fault_there part number within (Ok stream) = within stream
fault_there part number within (Err refusal) = absence part number refusal

-- the fault of the bytes of a stream; none, if there is no stream of that number
abbrev pub unless_absent : ℕ → Answer (List ℕ) → Option FaultPlace
unless_absent number (Ok stream) = None
unless_absent number (Err (stream_not_found n)) = None
unless_absent number (Err refusal) = Some (stream_fault parts.Stream number (failure refusal))

unfoldable pub bytes_fault : LayoutValue → List ℕ → ℕ → Option FaultPlace
bytes_fault layout file number = unless_absent number (stream_by layout file number None)

-- the faults of the first streams whose bytes can't be read
unfoldable pub streams_faults : LayoutValue → List ℕ → ℕ → List FaultPlace
streams_faults layout file count =
    flat_map (λ number. option_to_list (bytes_fault layout file number)) (range_with_len 0 count)
