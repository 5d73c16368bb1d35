-- What a definition assigns to bytes, and how the result of a call is compared with it.
use Rattle.std.specs.Prelude.{◌≡◌, ◌≢◌, ◌⊎◌, Bool, true, false, List, [], ◌∷◌, Result, Ok, Err}
use Rattle.std.specs.declared.io.ErrorKind.TheVariants as kinds
use Rattle.std.specs.IoError.{error_kind}
use Rattle.pdb_base.specs.declared.error.Error.{Error}
use Rattle.pdb_base.specs.declared.error.Error.TheVariants as errors
use Rattle.pdb_base.specs.Refusal.{Refusal, refusal_of}

-- the value that a definition assigns, or the refusal of the first fault
abbrev pub Answer : Type 0 → Type 0
Answer A = Result A Refusal

infixl 10 ◌>>=◌
-- the answer made from the value of the first one; if the first is a refusal, that refusal is the result
abbrev pub ◌>>=◌ : {A B : Type 0} → Answer A → (A → Answer B) → Answer B
(Ok x) >>= f = f x
(Err e) >>= f = Err e

-- the values of all answers in order, or the first refusal among them
abbrev pub values_of_all : {A : Type 0} → List (Answer A) → Answer (List A)
values_of_all [] = Ok []
values_of_all (answer ∷ answers) = answer >>= λ x. values_of_all answers >>= λ xs. Ok (x ∷ xs)

-- `Ok` if the condition is true, and otherwise that refusal
abbrev pub ok_if : Bool → Refusal → Answer (Unit {0})
ok_if true e = Ok tt
ok_if false e = Err e

-- The result of a call that requests no memory: the value that is meant, as `view` sees
-- it, or the refusal that is meant.
abbrev pub Gives : {X Y : Type 0} → (X → Y) → Result X Error → Answer Y → Type 0
Gives view (Ok x) meant = meant ≡ Ok (view x)
Gives view (Err e) meant = meant ≡ Err (refusal_of e)

-- The result of a call that requests memory: the same, or the error `OutOfMemory`.
abbrev pub Answers : {X Y : Type 0} → (X → Y) → Result X Error → Answer Y → Type 0
Answers view (Ok x) meant = meant ≡ Ok (view x)
Answers view (Err e) meant = (meant ≡ Err (refusal_of e)) ⊎ (e ≡ errors.OutOfMemory)

-- The error is an `IoError` of a kind other than `UnexpectedEof` and `OutOfMemory`.
abbrev pub IsOtherFault : Error → Type 0
IsOtherFault (errors.IoError cause) = (error_kind cause ≢ kinds.UnexpectedEof) × (error_kind cause ≢ kinds.OutOfMemory)
IsOtherFault e = ⊥

-- The error of a call for which a definition assigns `meant`: it is the refusal that is meant, or it is
-- `OutOfMemory`, or the source itself failed, which is possible only if `failed` holds.
abbrev pub RefusesUnless : {Y : Type 0} → Type 0 → Error → Answer Y → Type 0
RefusesUnless failed e meant = (meant ≡ Err (refusal_of e)) ⊎ ((e ≡ errors.OutOfMemory) ⊎ (IsOtherFault e × failed))

-- The result of a call that reads a source: the value that is meant, as `view` sees it, or an
-- error as `RefusesUnless` says.
abbrev pub AnswersUnless : {X Y : Type 0} → Type 0 → (X → Y) → Result X Error → Answer Y → Type 0
AnswersUnless failed view (Ok x) meant = meant ≡ Ok (view x)
AnswersUnless failed view (Err e) meant = RefusesUnless failed e meant
