-- How an answer is written into a caller's array or variable.
use Rattle.std.specs.Prelude.{◌≡◌, ◌⊎◌, ℕ, ◌+◌, List, ◌∷◌, ◌++◌, length, drop, nat_le, nat_lt, if◌then◌else◌, Option}
use Rattle.std.specs.Prelude.{Some, None, Ok, Err}
use Rattle.pdb_base.specs.{Answer.Answer, Refusal.out_of_memory}
use Rattle.pdb_handles.specs.declared.fault.Fault.{Fault}
use Rattle.pdb_handles.specs.Fault.{fine, fault_of_refusal, no_value, not_open, too_small}

-- how a call ended, how many items its answer has, and the caller's array afterwards
pub record Copied (A : Type 0) : Type 0 where
  pub fault : Fault
  pub length : ℕ
  pub room : List A

-- nothing is written
abbrev pub nothing_copied : {A : Type 0} → Fault → List A → Copied A
nothing_copied fault room = record { fault = fault; length = 0; room = room }

-- The items are written at the front of the array, and the rest of it stays as it was. If there is no
-- room for all of them, none is written, and the length still says how many there are.
abbrev pub items_copied : {A : Type 0} → List A → List A → Copied A
items_copied room items =
    if nat_lt (length room) (length items)
    then record { fault = too_small; length = length items; room = room }
    else record { fault = fine; length = length items; room = items ++ drop (length items) room }

-- the items of an answer are written, or the fault is that of its refusal
abbrev pub answer_copied : {A : Type 0} → List A → Answer (List A) → Copied A
answer_copied room (Ok items) = items_copied room items
answer_copied room (Err refusal) = nothing_copied (fault_of_refusal refusal) room

-- the answer for what a handle holds, if it holds what the call is about, and else `not_open`
abbrev pub copied_of : {A B : Type 0} → List B → (A → Answer (List B)) → Option A → Copied B
copied_of room answer (Some held) = answer_copied room (answer held)
copied_of room answer None = nothing_copied not_open room

-- A text is written at the front of the array with a NUL behind it, and the rest of the array stays as it was. If there
-- is no room for both, nothing is written, and the length still says how many bytes the text has.
abbrev pub text_copied : List ℕ → List ℕ → Copied ℕ
text_copied room text =
    if nat_le (length room) (length text)
    then record { fault = too_small; length = length text; room = room }
    else record { fault = fine; length = length text; room = text ++ 0 ∷ drop (length text + 1) room }

-- the text of an answer is written, or the fault is that of its refusal
abbrev pub text_answered : List ℕ → Answer (List ℕ) → Copied ℕ
text_answered room (Ok text) = text_copied room text
text_answered room (Err refusal) = nothing_copied (fault_of_refusal refusal) room

-- a text is written if there is one, and else the fault is `no_value`
abbrev pub text_if_copied : List ℕ → Option (List ℕ) → Copied ℕ
text_if_copied room (Some text) = text_copied room text
text_if_copied room None = nothing_copied no_value room

-- the same for an answer
abbrev pub text_if_answered : List ℕ → Answer (Option (List ℕ)) → Copied ℕ
text_if_answered room (Ok text) = text_if_copied room text
text_if_answered room (Err refusal) = nothing_copied (fault_of_refusal refusal) room

-- what is written of a list that may be absent
abbrev pub if_copied : {A : Type 0} → List A → Answer (Option (List A)) → Copied A
if_copied room (Ok (Some items)) = items_copied room items
if_copied room (Ok None) = nothing_copied no_value room
if_copied room (Err refusal) = nothing_copied (fault_of_refusal refusal) room

-- the same for what a handle holds
abbrev pub text_asked : {A : Type 0} → List ℕ → (A → Answer (List ℕ)) → Option A → Copied ℕ
text_asked room answer (Some held) = text_answered room (answer held)
text_asked room answer None = nothing_copied not_open room

abbrev pub text_if_asked : {A : Type 0} → List ℕ → (A → Answer (Option (List ℕ))) → Option A → Copied ℕ
text_if_asked room answer (Some held) = text_if_answered room (answer held)
text_if_asked room answer None = nothing_copied not_open room

abbrev pub if_copied_of : {A B : Type 0} → List B → (A → Answer (Option (List B))) → Option A → Copied B
if_copied_of room answer (Some held) = if_copied room (answer held)
if_copied_of room answer None = nothing_copied not_open room

-- What is meant was written; or memory ran out, and nothing was written.
abbrev pub CopiesOrLacks : {A : Type 0} → Copied A → List A → Copied A → Type 0
CopiesOrLacks done room meant = (done ≡ meant) ⊎ (done ≡ nothing_copied (fault_of_refusal out_of_memory) room)

-- The items of an answer were written to an array, which was `old` and is `new`; or the fault is that of its refusal;
-- or memory ran out.
abbrev pub CopiesAnswer : {A : Type 0} → Answer (List A) → List A → Fault → ℕ → List A → Type 0
CopiesAnswer meant old fault count new =
    CopiesOrLacks (record { fault = fault; length = count; room = new }) old (answer_copied old meant)

-- The same for a list that may be absent: the fault is then `no_value`.
abbrev pub CopiesIf : {A : Type 0} → Answer (Option (List A)) → List A → Fault → ℕ → List A → Type 0
CopiesIf meant old fault count new =
    CopiesOrLacks (record { fault = fault; length = count; room = new }) old (if_copied old meant)

-- Memory was refused, and the caller's value stays as it was.
abbrev pub LacksValue : {B : Type 0} → B → Fault → B → Type 0
LacksValue old fault new = (fault ≡ fault_of_refusal out_of_memory) × (new ≡ old)

-- What is meant was written for the caller; or the fault is that of the refusal that is meant, and the
-- caller's value stays as it was; or memory ran out.
abbrev pub IsAnswerTold : {A B : Type 0} → (A → B) → Answer A → B → Fault → B → Type 0
IsAnswerTold shown (Ok value) old fault new = ((fault ≡ fine) × (new ≡ shown value)) ⊎ LacksValue old fault new
IsAnswerTold shown (Err refusal) old fault new =
    ((fault ≡ fault_of_refusal refusal) × (new ≡ old)) ⊎ LacksValue old fault new
