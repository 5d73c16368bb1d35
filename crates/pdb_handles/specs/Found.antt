-- How a value that may not exist is returned to a caller.
use Rattle.std.specs.Prelude.{◌≡◌, Option, Some, None, Ok, Err}
use Rattle.pdb_base.specs.Answer.{Answer}
use Rattle.pdb_handles.specs.{declared.fault.Fault.Fault, Fault.fault_of_refusal, Fault.fine, Fault.not_open}
use Rattle.pdb_handles.specs.{Copied.IsAnswerTold}

-- how a call ended, and the caller's variable afterwards
pub record Found (A : Type 0) : Type 0 where
  pub fault : Fault
  pub value : A

-- the value that was found; or it is missing, and then the variable stays as it was
abbrev pub value_or_fault : {A : Type 0} → Fault → A → Option A → Found A
value_or_fault missing old (Some value) = record { fault = fine; value = value }
value_or_fault missing old None = record { fault = missing; value = old }

-- the handle doesn't hold what the call is about, and the variable stays as it was
abbrev pub not_held : {A : Type 0} → A → Found A
not_held old = record { fault = not_open; value = old }

-- the value of an answer; or the fault of its refusal, and then the variable stays as it was
abbrev pub answer_or_fault : {A : Type 0} → A → Answer A → Found A
answer_or_fault old (Ok value) = record { fault = fine; value = value }
answer_or_fault old (Err refusal) = record { fault = fault_of_refusal refusal; value = old }

-- the answer for what a handle holds, if it holds what the call is about, and else `not_open`
abbrev pub answered_of : {A B : Type 0} → B → (A → Answer B) → Option A → Found B
answered_of old answer (Some held) = answer_or_fault old (answer held)
answered_of old answer None = not_held old

-- a value of what a handle holds, if it holds what the call is about, and else `not_open`
abbrev pub found_of : {A B : Type 0} → B → (A → B) → Option A → Found B
found_of old number (Some held) = record { fault = fine; value = number held }
found_of old number None = not_held old

-- What is said of a call is so of what a handle holds; or it doesn't hold that, and the call ends as given.
abbrev pub AsksContent : {A T : Type 0} → (A → T → Type 0) → T → Option A → T → Type 0
AsksContent said closed (Some held) told = said held told
AsksContent said closed None told = told ≡ closed

-- The answer for what a handle holds is written; or it doesn't hold that, and the variable stays as it was.
abbrev pub AsksAnswer : {A B : Type 0} → (A → Answer B) → B → Option A → Fault → B → Type 0
AsksAnswer answer old (Some held) fault new = IsAnswerTold (λ value. value) (answer held) old fault new
AsksAnswer answer old None fault new = (fault ≡ not_open) × (new ≡ old)
