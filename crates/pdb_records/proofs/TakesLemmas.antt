-- What is assigned takes bytes.
use Rattle.std.proofs.Common.{◌≡◌, ℕ, ◌+◌, ◌≤◌, List, length, ap, arith, length-append}
use Rattle.pdb_base.specs.Spelling.{SpellsNumber, Begins}
use Rattle.pdb_records.specs.Shape.{Spells, u16}
use Rattle.pdb_records.specs.Row.{Row, gives, field, Assigns}
use Rattle.pdb_records.specs.ToEnd.{TakesBytes}

-- each value takes two bytes at least
abbrev pub TakesTwo : {A : Type 0} → (List ℕ → A → List ℕ → Type 0) → Type 0
TakesTwo {A} Is = (bytes : List ℕ) (x : A) (rest : List ℕ) → Is bytes x rest → 2 + length rest ≤ length bytes

-- what follows a prefix is shorter by the prefix
pub begins_length : {A : Type 0} (Spells : A → List ℕ → Type 0) (bytes : List ℕ) (x : A) (rest : List ℕ)
    (begins : Begins Spells bytes x rest) → length bytes ≡ length begins.front + length rest
begins_length Spells bytes x rest begins = omega (arith, length-append begins.front rest, ap length begins.is)

-- a row leaves no more than there was
pub row_leaves : {A : Type 0} (r : Row A) (bytes : List ℕ) (x : A) (rest : List ℕ) → Assigns r bytes x rest
    → length rest ≤ length bytes
row_leaves (gives a) bytes x rest is = omega (arith, ap length is.1)
row_leaves (field shape next) bytes x rest is =
    omega (arith, begins_length (Spells shape) bytes is.0 is.1 is.2, row_leaves (next is.0) is.1 x rest is.3)

-- a row that begins with a number of two bytes takes them
pub word_long : {A : Type 0} (next : ℕ → Row A) → TakesTwo (Assigns (field u16 next))
word_long next bytes x rest is =
    let two : length is.2.front ≡ 2 = is.2.spelled.len in
    omega (arith, two, begins_length (SpellsNumber 2) bytes is.0 is.1 is.2, row_leaves (next is.0) is.1 x rest is.3)

-- a row that begins with a number of two bytes
abbrev pub BeginsWithWord : {A : Type 0} → Row A → Type 0
BeginsWithWord {A} (field u16 next) = Unit {0}
BeginsWithWord {A} other = ⊥

pub word_row_long : {A : Type 0} (r : Row A) → BeginsWithWord r → TakesTwo (Assigns r)
word_row_long (field u16 next) begins = word_long next
word_row_long other begins = absurd begins

pub two_takes : {A : Type 0} (Is : List ℕ → A → List ℕ → Type 0) → TakesTwo Is → TakesBytes Is
two_takes Is two bytes x rest is = omega (arith, two bytes x rest is)
