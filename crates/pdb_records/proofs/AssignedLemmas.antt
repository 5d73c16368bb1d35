-- What a call that answers as bytes are read says by the grammar.
use Rattle.std.proofs.Common.{◌≡◌, inl, inr, ℕ, List, refl, sym, ap, ◌∙◌, Result, Ok, Err}
use Rattle.pdb_base.specs.declared.error.Error.{Error}
use Rattle.pdb_base.specs.declared.error.Error.TheVariants.{UnexpectedEof}
use Rattle.pdb_base.specs.Refusal.{Refusal, refusal_of, unexpected_eof}
use Rattle.pdb_base.specs.Answer.{Answer, Answers, ◌>>=◌}
use Rattle.pdb_base.proofs.lemmas.Collected.{ok_is, err_is, ok_is_no_err}
use Rattle.pdb_records.specs.Agreement.{Agrees}
use Rattle.pdb_records.specs.Assigned.{SaysAssigned, ShowsOrLacks, RefusesOrLacks}

pub says_assigned : {X Y : Type 0} (view : X → Y) (read : List ℕ → Answer (Y × List ℕ))
    (Is : List ℕ → Y → List ℕ → Type 0) (No : List ℕ → Refusal → Type 0) → Agrees read Is No
    → (bytes rest : List ℕ) (result : Result X Error) → Answers (λ x. (view x, rest)) result (read bytes)
    → SaysAssigned view (Is bytes) (No bytes) result
says_assigned view read Is No agrees bytes rest (Ok x) is = (rest, agrees.found bytes (view x) rest is)
says_assigned view read Is No agrees bytes rest (Err e) (inl is) = inl (agrees.failed bytes (refusal_of e) is)
says_assigned view read Is No agrees bytes rest (Err e) (inr want) = inr want

pub shows_assigned : {X Y : Type 0} (view : X → Y) (read : List ℕ → Answer (Y × List ℕ))
    (Is : List ℕ → Y → List ℕ → Type 0) (No : List ℕ → Refusal → Type 0) → Agrees read Is No
    → (bytes rest : List ℕ) (result : Result X Error) → Answers (λ x. (view x, rest)) result (read bytes)
    → (value : Y) (more : List ℕ) → Is bytes value more → ShowsOrLacks view value result
shows_assigned {X} {Y} view read Is No agrees bytes rest (Ok x) is value more assigned =
    ap (λ (p : Y × List ℕ). p.0) (ok_is (view x, rest) (value, more) (sym is ∙ agrees.only bytes value more assigned))
shows_assigned view read Is No agrees bytes rest (Err e) (inl is) value more assigned =
    absurd (ok_is_no_err (value, more) (refusal_of e) (sym (agrees.only bytes value more assigned) ∙ is))
shows_assigned view read Is No agrees bytes rest (Err e) (inr want) value more assigned = want

pub refuses_assigned : {X Y : Type 0} (view : X → Y) (read : List ℕ → Answer (Y × List ℕ))
    (Is : List ℕ → Y → List ℕ → Type 0) (No : List ℕ → Refusal → Type 0) → Agrees read Is No
    → (bytes rest : List ℕ) (result : Result X Error) → Answers (λ x. (view x, rest)) result (read bytes)
    → (refusal : Refusal) → No bytes refusal → RefusesOrLacks refusal result
refuses_assigned view read Is No agrees bytes rest (Ok x) is refusal fails =
    absurd (ok_is_no_err (view x, rest) refusal (sym is ∙ agrees.fails bytes refusal fails))
refuses_assigned {X} {Y} view read Is No agrees bytes rest (Err e) (inl is) refusal fails =
    inl (err_is {A = Y × List ℕ} (refusal_of e) refusal (sym is ∙ agrees.fails bytes refusal fails))
refuses_assigned view read Is No agrees bytes rest (Err e) (inr want) refusal fails = inr want

-- what is read, but for what is left behind it
abbrev pub front_of : {Y : Type 0} → Answer (Y × List ℕ) → Answer Y
front_of read = read >>= λ r. Ok r.0

pub says_front : {X Y : Type 0} (view : X → Y) (rest : List ℕ) (result : Result X Error) (read : Answer (Y × List ℕ))
    → Answers (λ x. (view x, rest)) result read → Answers view result (front_of read)
says_front {X} {Y} view rest (Ok x) read is = ap (λ (r : Answer (Y × List ℕ)). front_of r) is
says_front {X} {Y} view rest (Err e) read (inl is) = inl (ap (λ (r : Answer (Y × List ℕ)). front_of r) is)
says_front view rest (Err e) read (inr want) = inr want

-- one error alone says that bytes end too soon
pub end_is : (e : Error) → refusal_of e ≡ unexpected_eof → e ≡ UnexpectedEof
end_is UnexpectedEof is = refl
end_is other is = absurd cc
