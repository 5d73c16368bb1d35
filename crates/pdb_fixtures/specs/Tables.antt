-- Tables of types or ids.
use Rattle.std.specs.Prelude.{ℕ, List, [], ◌∷◌, ◌++◌, replicate}
use Rattle.pdb_fixtures.specs.Example.{u32s}

-- a version of 0, the header's size, the least index, the maximum, 40 bytes of 0, and the items
unfoldable pub table_bytes : ℕ → ℕ → ℕ → List ℕ → List ℕ
table_bytes header_size minimum maximum items =
    u32s (0 ∷ header_size ∷ minimum ∷ maximum ∷ []) ++ replicate 40 0 ++ items
