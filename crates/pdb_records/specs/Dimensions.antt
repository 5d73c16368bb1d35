-- The dimensions of an array are numbers of variable width. No number after the first begins with a zero
-- byte, and a zero byte follows the last.
use Rattle.std.specs.Prelude.{◌≡◌, ◌≢◌, ◌⊎◌, ℕ, zero, suc, ◌<◌, ◌≤◌, Bool, true, false, List, [], ◌∷◌, length, nat_le}
use Rattle.std.specs.Prelude.{if◌then◌else◌, codes, Ok, Err}
use Rattle.pdb_base.specs.Refusal.{Refusal, unexpected_eof, unimplemented_feature}
use Rattle.pdb_base.specs.Answer.{Answer, ◌>>=◌}
use Rattle.pdb_base.specs.Numeric.{num_at}
use Rattle.pdb_base.specs.Spelling.{SpellsNum, Begins}
use Rattle.pdb_records.specs.Shape.{num}
use Rattle.pdb_records.specs.Fault.{Refuses}

-- the largest dimension that the library reads
abbrev pub largest_dimension : ℕ
largest_dimension = 0xffffffff

-- the refusal of a larger dimension
abbrev pub too_large : Refusal
too_large = unimplemented_feature (codes "u64 array sizes")

-- the bytes begin with one dimension, followed by `rest`
abbrev pub IsDimension : List ℕ → ℕ → List ℕ → Type 0
IsDimension bytes n rest = Begins SpellsNum bytes n rest × (n ≤ largest_dimension)

-- the bytes begin with no number, or with one that is too large
abbrev pub NoDimension : List ℕ → Refusal → Type 0
NoDimension bytes refusal =
    Refuses num bytes refusal
    ⊎ ((n : ℕ) × (rest : List ℕ) × Begins SpellsNum bytes n rest × (largest_dimension < n) × (refusal ≡ too_large))

-- the bytes go on with another dimension: they begin with a byte that isn't zero
abbrev pub HasAnotherDimension : List ℕ → Type 0
HasAnotherDimension [] = ⊥
HasAnotherDimension (byte ∷ bytes) = byte ≢ 0

-- the bytes begin with these dimensions, and a zero byte follows the last
abbrev pub AreDimensions : List ℕ → List ℕ → List ℕ → Type 0
AreDimensions bytes [] rest = ⊥
AreDimensions bytes (n ∷ []) rest = IsDimension bytes n (0 ∷ rest)
AreDimensions bytes (n ∷ m ∷ ns) rest = (mid : List ℕ) × IsDimension bytes n mid × HasAnotherDimension mid
    × AreDimensions mid (m ∷ ns) rest

-- Behind these dimensions, the bytes begin with no dimension that can be read, or they end.
abbrev pub NoDimensionBehind : List ℕ → List ℕ → Refusal → Type 0
NoDimensionBehind [] bytes refusal = NoDimension bytes refusal
NoDimensionBehind (n ∷ ns) bytes refusal =
    (mid : List ℕ) × IsDimension bytes n mid ×
    (((mid ≡ []) × (ns ≡ []) × (refusal ≡ unexpected_eof))
    ⊎ (HasAnotherDimension mid × NoDimensionBehind ns mid refusal))

-- the dimensions are refused with their first fault
abbrev pub NoDimensions : List ℕ → Refusal → Type 0
NoDimensions bytes refusal = (ns : List ℕ) × NoDimensionBehind ns bytes refusal

-- reads one dimension
abbrev pub dimension_at : List ℕ → Answer (ℕ × List ℕ)
dimension_at bytes = num_at bytes >>= λ n. if nat_le n.0 largest_dimension then Ok n else Err too_large

-- reads what follows a dimension: a zero byte, which ends the list, or more dimensions
abbrev pub behind_dimension : (List ℕ → Answer (List ℕ × List ℕ)) → ℕ → List ℕ → Answer (List ℕ × List ℕ)
behind_dimension more n [] = Err unexpected_eof
behind_dimension more n (zero ∷ rest) = Ok (n ∷ [], rest)
behind_dimension more n (suc byte ∷ bytes) = more (suc byte ∷ bytes) >>= λ ns. Ok (n ∷ ns.0, ns.1)

-- reads dimensions, at most `most` of them
abbrev pub dimensions_upto : ℕ → List ℕ → Answer (List ℕ × List ℕ)
dimensions_upto zero bytes = Err unexpected_eof
dimensions_upto (suc most) bytes = dimension_at bytes >>= λ n. behind_dimension (dimensions_upto most) n.0 n.1

-- reads dimensions; as each takes bytes, there are no more than the number of bytes allows
unfoldable pub dimensions_at : List ℕ → Answer (List ℕ × List ℕ)
dimensions_at bytes = dimensions_upto (suc (length bytes)) bytes

-- reads whether the dimensions end here; the zero byte that ends them is skipped
abbrev pub end_at : List ℕ → Answer (Bool × List ℕ)
end_at [] = Err unexpected_eof
end_at (zero ∷ rest) = Ok (true, rest)
end_at (suc byte ∷ bytes) = Ok (false, suc byte ∷ bytes)
