-- Why bytes that begin with no value of a shape are refused.
use Rattle.std.specs.Prelude.{◌≡◌, ◌⊎◌, ℕ, zero, suc, false, List}
use Rattle.pdb_base.specs.Refusal.{Refusal, unexpected_eof, unexpected_numeric_prefix, unimplemented_type_kind}
use Rattle.pdb_base.specs.Refusal.{unimplemented_feature}
use Rattle.pdb_base.specs.Numeric.{numeric_leaves, unsigned_leaves}
use Rattle.pdb_base.specs.Spelling.{SpellsNumber, Begins}
use Rattle.pdb_base.specs.Laws.{BeginsBadly}
use Rattle.pdb_flags.specs.PointerAttributes.{is_pointer_word}
use Rattle.pdb_records.specs.Shape.{Shape, Spells, pointer_leaf, num, variant, pointer_word, when, times}

-- The refusals that the contents of bytes can cause: the bytes end too soon, a number has an unknown
-- prefix, no record is known for a leaf, or the bytes use a feature that the library doesn't read.
abbrev pub IsFaultOfBytes : Refusal → Type 0
IsFaultOfBytes unexpected_eof = Unit {0}
IsFaultOfBytes (unexpected_numeric_prefix prefix) = Unit {0}
IsFaultOfBytes (unimplemented_type_kind kind) = Unit {0}
IsFaultOfBytes (unimplemented_feature feature) = Unit {0}
IsFaultOfBytes other = ⊥

-- the bytes begin with no value
abbrev pub BeginsNone : {A : Type 0} → (A → List ℕ → Type 0) → List ℕ → Type 0
BeginsNone {A} Spells bytes = (value : A) (rest : List ℕ) → ¬ Begins Spells bytes value rest

-- If the bytes begin with a whole number that is bad, they are refused for that number; if they don't,
-- they end too soon.
abbrev pub Judged : (ℕ → Type 0) → (ℕ → Refusal) → Refusal → Type 0
Judged IsBad why refusal = ((n : ℕ) × IsBad n × (refusal ≡ why n))
    ⊎ (((n : ℕ) → ¬ IsBad n) × (refusal ≡ unexpected_eof))

-- the bytes begin with a whole word that isn't a valid word of pointer attributes
pub record BeginsBadPointer (bytes : List ℕ) (word : ℕ) : Type 0 where
  pub rest : List ℕ
  pub begins : Begins (SpellsNumber 4) bytes word rest
  pub bad : is_pointer_word word ≡ false

-- Of `count` values, the bytes hold the first ones or none, and refuse the next one with this refusal.
abbrev pub FirstOf : {A : Type 0} → (A → List ℕ → Type 0) → (List ℕ → Refusal → Type 0) → ℕ → List ℕ → Refusal → Type 0
FirstOf {A} Spells Fault zero bytes refusal = ⊥
FirstOf {A} Spells Fault (suc count) bytes refusal =
    (BeginsNone Spells bytes × Fault bytes refusal)
    ⊎ ((value : A) × (mid : List ℕ) × Begins Spells bytes value mid × FirstOf Spells Fault count mid refusal)

-- The refusal of bytes that begin with no value of a shape. A number is refused with its prefix, a
-- pointer with the leaf of pointers, and any other shape because the bytes end too soon.
abbrev pub Fault : Shape → List ℕ → Refusal → Type 0
Fault num bytes refusal = Judged (BeginsBadly unsigned_leaves bytes)
    (λ prefix. unexpected_numeric_prefix prefix) refusal
Fault variant bytes refusal = Judged (BeginsBadly numeric_leaves bytes)
    (λ prefix. unexpected_numeric_prefix prefix) refusal
Fault pointer_word bytes refusal = Judged (BeginsBadPointer bytes)
    (λ word. unimplemented_type_kind pointer_leaf) refusal
Fault (when test shape) bytes refusal = Fault shape bytes refusal
Fault (times count shape) bytes refusal = FirstOf (Spells shape) (Fault shape) count bytes refusal
Fault other bytes refusal = refusal ≡ unexpected_eof

-- the bytes begin with no value of a shape, and are refused with this refusal
abbrev pub Refuses : Shape → List ℕ → Refusal → Type 0
Refuses shape bytes refusal = BeginsNone (Spells shape) bytes × Fault shape bytes refusal
