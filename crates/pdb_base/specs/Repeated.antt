-- A number of values that follow one another.
use Rattle.std.specs.Prelude.{◌≡◌, ℕ, zero, suc, List, [], ◌∷◌, ◌++◌, Ok}
use Rattle.pdb_base.specs.Answer.{Answer, ◌>>=◌}

-- `front` spells the values, each after the one before.
abbrev pub SpellsEach : {A : Type 0} → (A → List ℕ → Type 0) → List A → List ℕ → Type 0
SpellsEach {A} Spells [] front = front ≡ []
SpellsEach {A} Spells (x ∷ xs) front = (head : List ℕ) × (tail : List ℕ) × Spells x head × SpellsEach Spells xs tail
    × (head ++ tail ≡ front)

-- `count` values, each read after the one before
abbrev pub read_times : {A : Type 0} → (List ℕ → Answer (A × List ℕ)) → ℕ → List ℕ → Answer (List A × List ℕ)
read_times read zero bytes = Ok ([], bytes)
read_times read (suc count) bytes = read bytes >>= λ x. read_times read count x.1 >>= λ xs. Ok (x.0 ∷ xs.0, xs.1)
