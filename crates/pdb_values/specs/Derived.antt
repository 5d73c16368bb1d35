-- What `==` returns for values that borrow a name or hold a list.
use Rattle.std.specs.Prelude.{◌≡◌, ◌↔◌, Bool, IsTrue}

-- `eq` returns true for two values if `said` maps both to the same value, wherever their names are
-- stored, and false for any other two
abbrev pub TellsApartBy : {A B : Type 0} → (A → B) → (A → A → Bool) → Type 0
TellsApartBy {A} said eq = (a b : A) → IsTrue (eq a b) ↔ (said a ≡ said b)
