-- What follows a leaf that is known; any other leaf is refused with its number.
use Rattle.std.specs.Prelude.{◌≡◌, ℕ, List, Option, Some, None, Err}
use Rattle.pdb_base.specs.Refusal.{Refusal, unimplemented_type_kind}
use Rattle.pdb_base.specs.Answer.{Answer}

-- the contents of a record whose leaf is known
abbrev pub IsOfKnownLeaf : {L A : Type 0} → (L → List ℕ → A → List ℕ → Type 0) → Option L → List ℕ → A → List ℕ → Type 0
IsOfKnownLeaf Is None bytes value rest = ⊥
IsOfKnownLeaf Is (Some leaf) bytes value rest = Is leaf bytes value rest

-- why the leaf of this number, or the record behind it, is refused
abbrev pub NoKnown : {L : Type 0} → ℕ → (L → List ℕ → Refusal → Type 0) → Option L → List ℕ → Refusal → Type 0
NoKnown number No None bytes refusal = unimplemented_type_kind number ≡ refusal
NoKnown number No (Some leaf) bytes refusal = No leaf bytes refusal

-- reads what follows the leaf of this number
abbrev pub known_at : {L A : Type 0} → ℕ → (L → List ℕ → Answer (A × List ℕ)) → Option L → List ℕ → Answer (A × List ℕ)
known_at number read None bytes = Err (unimplemented_type_kind number)
known_at number read (Some leaf) bytes = read leaf bytes
