-- Which front of bytes spells which value, defined without reading them.
use Rattle.std.specs.Prelude.{◌≡◌, ◌≢◌, ◌<◌, ◌⊎◌, ℕ, ℤ, List, [], ◌∷◌, ◌++◌, length, Some, Ok}
use Rattle.std.specs.List.{AllByRecursion}
use Rattle.std.specs.Int.{Width, cast_signed}
use Rattle.byteorder.specs.Endian.{little_number}
use Rattle.pdb_base.specs.declared.variant.Variant.{Variant}
use Rattle.pdb_base.specs.Answer.{Answer}
use Rattle.pdb_base.specs.Numeric.{NumberKind, u16, Numeral, least_leaf, numeric_leaves, unsigned_leaves, kind_behind}
use Rattle.pdb_base.specs.Numeric.{number_width, variant_of}

-- `front` spells a number in `width` bytes, little-endian.
pub record SpellsNumber (width number : ℕ) (front : List ℕ) : Type 0 where
  pub len : length front ≡ width
  pub is : little_number width front ≡ number

-- `front` spells a signed number in `width` bytes, little-endian, in two's complement.
pub record SpellsSigned (signed : Width) (width : ℕ) (number : ℤ) (front : List ℕ) : Type 0 where
  pub bits : ℕ
  pub spelled : SpellsNumber width bits front
  pub is : cast_signed signed bits ≡ number

-- `front` spells a text without a NUL, followed by a NUL.
pub record SpellsText (text front : List ℕ) : Type 0 where
  pub no_nul : AllByRecursion (λ byte. byte ≢ 0) text
  pub is : text ++ 0 ∷ [] ≡ front

-- The bytes spell a text: a byte with its length, and the text.
abbrev pub SpellsPascalText : List ℕ → List ℕ → Type 0
SpellsPascalText text front = length text ∷ text ≡ front

-- `front` spells a number below 0x8000, which stands for itself in two bytes.
pub record SpellsItself (numeral : Numeral) (front : List ℕ) : Type 0 where
  pub kind : numeral.kind ≡ u16
  pub small : numeral.number < least_leaf
  pub spelled : SpellsNumber 2 numeral.number front

-- `front` spells a number after a prefix: two bytes that say its kind, and then the number.
pub record SpellsPrefixed (leaves : List (ℕ × NumberKind)) (numeral : Numeral) (front : List ℕ) : Type 0 where
  pub prefix : ℕ
  pub says : kind_behind leaves prefix ≡ Some numeral.kind
  pub head : List ℕ
  pub head_spelled : SpellsNumber 2 prefix head
  pub tail : List ℕ
  pub tail_spelled : SpellsNumber (number_width numeral.kind) numeral.number tail
  pub is : head ++ tail ≡ front

-- The bytes spell a number of variable width, with these leaves as its prefixes.
abbrev pub SpellsNumeral : List (ℕ × NumberKind) → Numeral → List ℕ → Type 0
SpellsNumeral leaves numeral front = SpellsItself numeral front ⊎ SpellsPrefixed leaves numeral front

-- `front` spells an unsigned number of variable width.
pub record SpellsNum (number : ℕ) (front : List ℕ) : Type 0 where
  pub numeral : Numeral
  pub spelled : SpellsNumeral unsigned_leaves numeral front
  pub is : numeral.number ≡ number

-- `front` spells a number of variable width, and `value` is that number as a `Variant`.
pub record SpellsVariant (value : Variant) (front : List ℕ) : Type 0 where
  pub numeral : Numeral
  pub spelled : SpellsNumeral numeric_leaves numeral front
  pub is : variant_of numeral ≡ value

-- The bytes begin with a front that spells the value, and the rest follows it.
pub record Begins {A : Type 0} (Spells : A → List ℕ → Type 0) (bytes : List ℕ) (value : A)
    (rest : List ℕ) : Type 0 where
  pub front : List ℕ
  pub spelled : Spells value front
  pub is : front ++ rest ≡ bytes

-- A reader reads exactly what is spelled: the value that a front of the bytes spells, and the rest. So at
-- most one front of any bytes spells a value.
pub record ReadsWhatIsSpelled {A : Type 0} (Spells : A → List ℕ → Type 0)
    (read : List ℕ → Answer (A × List ℕ)) : Type 0 where
  pub found : (bytes : List ℕ) (value : A) (rest : List ℕ) → read bytes ≡ Ok (value, rest)
      → Begins Spells bytes value rest
  pub only : (bytes : List ℕ) (value : A) (rest : List ℕ) → Begins Spells bytes value rest
      → read bytes ≡ Ok (value, rest)
