-- Binary search among numbers at the places 0, 1, and so on.
use Rattle.std.specs.Prelude.{◌≡◌, ℕ, ◌-◌, ◌<◌, ◌≤◌, length}
use Rattle.std.specs.Int.Digits.{digits_of}

-- how many binary digits a number has; 0 has none
unfoldable pub binary_digits : ℕ → ℕ
binary_digits n = length (digits_of 2 n)

-- The numbers at the first `places` places don't decrease.
abbrev pub Rises : (ℕ → ℕ) → ℕ → Type 0
Rises number places = (i j : ℕ) → i ≤ j → j < places → number i ≤ number j

-- What a search for the last number at or below a bound has found: the place after that number. If `place`
-- isn't 0, the number before it is `last`, which is at or below the bound. If the numbers don't decrease, all
-- numbers before `place` are at or below the bound, and all from it on are above the bound.
pub record IsFound (number : ℕ → ℕ) (places bound place last : ℕ) : Type 0 where
  pub within : place ≤ places
  pub before : 0 < place → (number (place - 1) ≡ last) × (last ≤ bound)
  pub below : Rises number places → (k : ℕ) → k < place → number k ≤ bound
  pub above : Rises number places → (k : ℕ) → place ≤ k → k < places → bound < number k
