-- What the traits that a type derives say about its values.
use Rattle.std.specs.Prelude.{◌≡◌, ◌↔◌, ◌<◌, ℕ, Bool, IsTrue}
use Rattle.std.specs.declared.cmp.Ordering.{Ordering}
use Rattle.std.specs.Ordering.{MatchOrdering}

-- `==` holds for two values if and only if they are the same value.
abbrev pub TellsApart : {A : Type 0} → (A → A → Bool) → Type 0
TellsApart {A} eq = (a b : A) → IsTrue (eq a b) ↔ (a ≡ b)

-- Values compare as less or greater as their numbers do, and as equal exactly if they are the same value.
abbrev pub OrdersBy : {A : Type 0} → (A → ℕ) → (A → A → Ordering) → Type 0
OrdersBy {A} number compared = (a b : A) → MatchOrdering (compared a b) (number a < number b) (a ≡ b)
    (number b < number a)

-- The default value is this value and no other.
abbrev pub DefaultsTo : {A : Type 0} → (A → Type 0) → A → Type 0
DefaultsTo {A} is_default meant = (value : A) → is_default value → value ≡ meant

-- `clone` never fails, and returns the value that it is given.
abbrev pub Copies : {A : Type 0} → (A → A → Type 0) → (A → Type 0) → Type 0
Copies {A} is_clone is_infallible =
    (original : A) → is_infallible original × ((copy : A) → is_clone original copy → copy ≡ original)
