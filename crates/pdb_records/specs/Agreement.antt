-- Agreement of a reader with a grammar, which defines what values bytes begin with.
use Rattle.std.specs.Prelude.{◌≡◌, ℕ, List, Ok, Err}
use Rattle.pdb_base.specs.Refusal.{Refusal}
use Rattle.pdb_base.specs.Answer.{Answer}

-- A reader reads exactly what a grammar assigns. `Is bytes value rest` means that the bytes begin with a
-- value, followed by `rest`; `Fails bytes refusal` means that they begin with none, and are refused with
-- this refusal. So bytes begin with at most one value, and bytes that begin with none have exactly one
-- refusal.
pub record Agrees {A : Type 0} (read : List ℕ → Answer (A × List ℕ)) (Is : List ℕ → A → List ℕ → Type 0)
    (Fails : List ℕ → Refusal → Type 0) : Type 0 where
  pub found : (bytes : List ℕ) (value : A) (rest : List ℕ) → read bytes ≡ Ok (value, rest) → Is bytes value rest
  pub only : (bytes : List ℕ) (value : A) (rest : List ℕ) → Is bytes value rest → read bytes ≡ Ok (value, rest)
  pub failed : (bytes : List ℕ) (refusal : Refusal) → read bytes ≡ Err refusal → Fails bytes refusal
  pub fails : (bytes : List ℕ) (refusal : Refusal) → Fails bytes refusal → read bytes ≡ Err refusal

-- The same bytes never begin with two different values, nor with one value and two different rests.
abbrev pub NoTwoValues : {A : Type 0} → (List ℕ → A → List ℕ → Type 0) → Type 0
NoTwoValues {A} Is = (bytes : List ℕ) (one other : A) (rest end : List ℕ) → Is bytes one rest → Is bytes other end
    → (one ≡ other) × (rest ≡ end)
