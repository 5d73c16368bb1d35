-- The definitions of numbers, stated in other words.
use Rattle.std.specs.Prelude.{◌≡◌, ℕ}

-- No two values have the same number.
abbrev pub AreToldApart : {A : Type 0} → (A → ℕ) → Type 0
AreToldApart {A} number = (a b : A) → number a ≡ number b → a ≡ b
