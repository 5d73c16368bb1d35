-- Lists whose count claims more items than their bytes hold.
use Rattle.std.specs.Prelude.{ℕ, ◌*◌, ◌<◌, List, length}
use Rattle.pdb_base.specs.Spelling.{SpellsNumber, Begins}

-- a leaf, then a count of `width` bytes, and then fewer bytes than that many indexes take
abbrev pub ClaimsMore : ℕ → ℕ → List ℕ → Type 0
ClaimsMore leaf width bytes =
    (mid : List ℕ) × Begins (SpellsNumber 2) bytes leaf mid
    × ((count : ℕ) × (rest : List ℕ) × Begins (SpellsNumber width) mid count rest × (length rest < 4 * count))
