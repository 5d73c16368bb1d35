-- Numbers that increase, as a recursion says it.
use Rattle.std.proofs.Common.{ℕ, zero, suc, drop, ◌+◌, ◌<◌, ◌≤◌, List, [], ◌∷◌, length, slice_index, arith, add-one}
use Rattle.std.specs.List.Sorted.{IsStrictlyIncreasing}

-- each number is above the one before it, the first above a bound
abbrev pub Above : ℕ → List ℕ → Type 0
Above bound [] = Unit {0}
Above bound (x ∷ xs) = (bound < x) × Above x xs

-- each number is above the one before it
abbrev pub Rising : List ℕ → Type 0
Rising [] = Unit {0}
Rising (x ∷ xs) = Above x xs

above : (bound : ℕ) (xs : List ℕ) → IsStrictlyIncreasing (bound ∷ xs) → Above bound xs
above bound [] up = tt
above bound (x ∷ xs) up = (
  omega (arith, up 0),
  above x xs (λ k within.
      let later = up (k + 1) (omega (arith, within)) in
      let next = rw (add-one k, add-one (suc k)) at later in
      rw (add-one k) next),
)

pub rising : (xs : List ℕ) → IsStrictlyIncreasing xs → Rising xs
rising [] up = tt
rising (x ∷ xs) up = above x xs up

-- what is above a bound is above a lower one
pub above-lower : (low high : ℕ) (xs : List ℕ) → low ≤ high → Above high xs → Above low xs
above-lower low high [] lower up = tt
above-lower low high (x ∷ xs) lower up = (omega (arith, up.0), up.1)

pub rising-tail : (x : ℕ) (xs : List ℕ) → Rising (x ∷ xs) → Rising xs
rising-tail x [] up = tt
rising-tail x (y ∷ ys) up = up.1

pub rising-drop : (k : ℕ) (xs : List ℕ) → Rising xs → Rising (drop k xs)
rising-drop zero xs up = up
rising-drop (suc k) [] up = tt
rising-drop (suc k) (x ∷ xs) up = rising-drop k xs (rising-tail x xs up)

increases : (bound : ℕ) (xs : List ℕ) → Above bound xs → (k : ℕ) → k < length xs
    → slice_index (bound ∷ xs) k < slice_index xs k
increases bound [] up k within = absurd (omega (arith, within))
increases bound (x ∷ xs) up zero within = up.0
increases bound (x ∷ xs) up (suc k) within = increases x xs up.1 k (omega (arith, within))

pub increasing : (xs : List ℕ) → Rising xs → IsStrictlyIncreasing xs
increasing [] up k within = absurd (omega (arith, within))
increasing (x ∷ xs) up k within = rw (add-one k) (increases x xs up k (omega (arith, within)))
