-- Values one after another, to the end of the bytes.
use Rattle.std.specs.Prelude.{◌≡◌, ◌≢◌, ℕ, ◌<◌, zero, suc, List, [], ◌∷◌, length, Ok}
use Rattle.pdb_base.specs.Refusal.{Refusal}
use Rattle.pdb_base.specs.Answer.{Answer, ◌>>=◌}

-- The bytes begin with these values, one behind the other, followed by `rest`.
abbrev pub Sequence : {A : Type 0} → (List ℕ → A → List ℕ → Type 0) → List ℕ → List A → List ℕ → Type 0
Sequence {A} Is bytes [] rest = bytes ≡ rest
Sequence {A} Is bytes (x ∷ xs) rest = (mid : List ℕ) × Is bytes x mid × Sequence Is mid xs rest

-- The bytes hold these values, and nothing behind them.
abbrev pub Fills : {A : Type 0} → (List ℕ → A → List ℕ → Type 0) → List ℕ → List A → List ℕ → Type 0
Fills {A} Is bytes xs rest = Sequence Is bytes xs rest × (rest ≡ [])

-- Behind some values, the bytes go on, but begin with no further value, and this is the refusal of that.
abbrev pub FailsBehind : {A : Type 0} → (List ℕ → A → List ℕ → Type 0) → (List ℕ → Refusal → Type 0) → List ℕ → Refusal
    → Type 0
FailsBehind {A} Is Fails bytes refusal = (xs : List A) × (mid : List ℕ) × Sequence Is bytes xs mid × (mid ≢ [])
    × Fails mid refusal

-- each value takes at least one byte
abbrev pub TakesBytes : {A : Type 0} → (List ℕ → A → List ℕ → Type 0) → Type 0
TakesBytes {A} Is = (bytes : List ℕ) (x : A) (rest : List ℕ) → Is bytes x rest → length rest < length bytes

-- reads values up to the end of the bytes, but at most `most` of them
abbrev pub read_upto : {A : Type 0} → (List ℕ → Answer (A × List ℕ)) → ℕ → List ℕ → Answer (List A × List ℕ)
read_upto {A} read most [] = Ok ([], [])
read_upto {A} read zero (byte ∷ bytes) = Ok ([], byte ∷ bytes)
read_upto {A} read (suc most) (byte ∷ bytes) = read (byte ∷ bytes) >>= λ x. read_upto read most x.1
    >>= λ xs. Ok (x.0 ∷ xs.0, xs.1)

-- reads values up to the end of the bytes; each value must take at least one byte
unfoldable pub to_end : {A : Type 0} → (List ℕ → Answer (A × List ℕ)) → List ℕ → Answer (List A × List ℕ)
to_end {A} read bytes = read_upto read (length bytes) bytes
