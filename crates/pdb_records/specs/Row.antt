-- A row: the shapes that stand in a record one after another, and the value that their values make. A
-- shape in a row may depend on the values before it.
use Rattle.std.specs.Prelude.{◌≡◌, ◌⊎◌, ℕ, List, Ok}
use Rattle.pdb_base.specs.Refusal.{Refusal}
use Rattle.pdb_base.specs.Answer.{Answer, ◌>>=◌}
use Rattle.pdb_base.specs.Spelling.{Begins}
use Rattle.pdb_records.specs.Shape.{Shape, Value, Spells, read_shape}
use Rattle.pdb_records.specs.Fault.{Refuses}

-- shapes one after another, and the value that their values make
pub data Row (A : Type 0) : Type 0 where
  gives : A → Row A  -- the value, with nothing more in the row
  field : (shape : Shape) → (Value shape → Row A) → Row A  -- a shape, and what follows its value

-- The bytes begin with a value of each shape of the row, in order, followed by `rest`.
abbrev pub Assigns : {A : Type 0} → Row A → List ℕ → A → List ℕ → Type 0
Assigns {A} (gives a) bytes value rest = (a ≡ value) × (bytes ≡ rest)
Assigns {A} (field shape next) bytes value rest = (v : Value shape) × (mid : List ℕ) × Begins (Spells shape) bytes v mid
    × Assigns (next v) mid value rest

-- The bytes begin with values of the row's first shapes, but with none of the next, and this is the
-- refusal of that.
abbrev pub Stops : {A : Type 0} → Row A → List ℕ → Refusal → Type 0
Stops {A} (gives a) bytes refusal = ⊥
Stops {A} (field shape next) bytes refusal =
    Refuses shape bytes refusal
    ⊎ ((v : Value shape) × (mid : List ℕ) × Begins (Spells shape) bytes v mid × Stops (next v) mid refusal)

-- reads a row at the front of bytes: its value, and the bytes behind it
abbrev pub read_row : {A : Type 0} → Row A → List ℕ → Answer (A × List ℕ)
read_row {A} (gives a) bytes = Ok (a, bytes)
read_row {A} (field shape next) bytes = read_shape shape bytes >>= λ v. read_row (next v.0) v.1

-- the same as `read_row`, but unfolded only on demand
unfoldable pub row : {A : Type 0} → Row A → List ℕ → Answer (A × List ℕ)
row {A} r bytes = read_row r bytes
