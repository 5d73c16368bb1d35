-- The first number of a range that passes a test.
use Rattle.std.proofs.Common.{◌≡◌, ℕ, zero, suc, ◌+◌, ◌-◌, ◌<◌, ◌≤◌, inl, inr, refl, sym, ap, ◌∙◌, arith, Bool, true}
use Rattle.std.proofs.Common.{false, cond, Some, None, List, [], ◌∷◌, ◌++◌, add-zero}
use Rattle.std.specs.List.{filter, find, range_with_len}
use Rattle.std.proofs.lemmas.Bool.{cases_Bool, cases_eq, cases_lt}
use Rattle.std.proofs.lemmas.List.{append-nil}

-- a number that passes, where no lower one does
pub find_first : (p : ℕ → Bool) (a n i : ℕ) → a ≤ i → i < a + n → p i ≡ true → ((j : ℕ) → a ≤ j → j < i → p j ≡ false)
    → find p (range_with_len a n) ≡ Some i
find_first p a zero i least most passes lower = absurd (omega (arith, least, most))
find_first p a (suc n) i least most passes lower = elim (cases_eq a i) [
  | inl same ↦
      let here : p a ≡ true = rw same passes in
      rw here (rw same refl)
  | inr other ↦
      let fails : p a ≡ false = lower a (omega arith) (omega (arith, least, other)) in
      rw fails (find_first p (a + 1) n i (omega (arith, least, other)) (omega (arith, most)) passes
      (λ j from below. lower j (omega (arith, from)) below))
]

-- no number passes
pub find_none : (p : ℕ → Bool) (a n : ℕ) → ((j : ℕ) → a ≤ j → j < a + n → p j ≡ false)
    → find p (range_with_len a n) ≡ None
find_none p a zero none = refl
find_none p a (suc n) none =
    let fails : p a ≡ false = none a (omega arith) (omega arith) in
    rw fails (find_none p (a + 1) n (λ j from below. none j (omega (arith, from)) (omega (arith, below))))

-- the number that was found passes, and no lower one does
pub find_found : (p : ℕ → Bool) (a n i : ℕ) → find p (range_with_len a n) ≡ Some i
    → (a ≤ i) × (i < a + n) × (p i ≡ true) × ((j : ℕ) → a ≤ j → j < i → p j ≡ false)
find_found p a zero i is = absurd cc
find_found p a (suc n) i is = elim (cases_Bool (p a)) [
  | inl passes ↦
      let same : Some a ≡ Some i = rw passes at is in
      let here : a ≡ i = cc in (
        omega (arith, here),
        omega (arith, here),
        rw (← here) passes,
        λ j from below. absurd (omega (arith, here, from, below)),
      )
  | inr fails ↦
      let more = find_found p (a + 1) n i (rw fails at is) in (
        omega (arith, more.0),
        omega (arith, more.1),
        more.2,
        λ j from below. elim (cases_eq a j) [
          | inl same ↦ rw (← same) fails
          | inr other ↦ more.3 j (omega (arith, from, other)) below
        ],
      )
]

-- where none was found, none passes
pub find_missed : (p : ℕ → Bool) (a n : ℕ) → find p (range_with_len a n) ≡ None → (j : ℕ) → a ≤ j → j < a + n
    → p j ≡ false
find_missed p a zero is j from below = absurd (omega (arith, from, below))
find_missed p a (suc n) is j from below = elim (cases_Bool (p a)) [
  | inl passes ↦ let same : Some a ≡ None = rw passes at is in absurd cc
  | inr fails ↦ elim (cases_eq a j) [
    | inl same ↦ rw (← same) fails
    | inr other ↦ find_missed p (a + 1) n (rw fails at is) j (omega (arith, from, other)) (omega (arith, below))
  ]
]

-- ---- all numbers of a range that pass a test

-- one more number
filter_more : (p : ℕ → Bool) (a n : ℕ) → filter p (range_with_len a (suc n)) ≡ filter p (range_with_len a n)
    ++ cond (p (a + n)) ((a + n) ∷ []) []
filter_more p a zero = rw (add-zero a) refl
filter_more p a (suc n) =
    let next : a + 1 + n ≡ a + suc n = omega arith in
    let more = rw next at (filter_more p (a + 1) n) in
    elim (cases_Bool (p a)) [
      | inl passes ↦ rw passes (ap (λ (l : List ℕ). a ∷ l) more)
      | inr fails ↦ rw fails more
    ]

-- numbers that don't pass change nothing
pub filter_gap : (p : ℕ → Bool) (a n m : ℕ) → ((j : ℕ) → a + n ≤ j → j < a + n + m → p j ≡ false)
    → filter p (range_with_len a (n + m)) ≡ filter p (range_with_len a n)
filter_gap p a n zero none = rw (add-zero n) refl
filter_gap p a n (suc m) none =
    let longer : n + suc m ≡ suc (n + m) = omega arith in
    let fails : p (a + (n + m)) ≡ false = none (a + (n + m)) (omega arith) (omega arith) in
    rw (longer, filter_more p a (n + m), fails, append-nil)
    (filter_gap p a n m (λ j from below. none j from (omega (arith, below))))

-- behind numbers that don't pass comes one that may
pub filter_next : (p : ℕ → Bool) (a next x : ℕ) → a ≤ next → next ≤ x → ((j : ℕ) → next ≤ j → j < x → p j ≡ false)
    → filter p (range_with_len a (x + 1 - a)) ≡ filter p (range_with_len a (next - a)) ++ cond (p x) (x ∷ []) []
filter_next p a next x least order none =
    let n = next - a in
    let m = x - next in
    let all : x + 1 - a ≡ suc (n + m) = omega (arith, least, order) in
    let here : a + (n + m) ≡ x = omega (arith, least, order) in
    let gap = filter_gap p a n m (λ j from below. none j (omega (arith, from, least))
    (omega (arith, below, least, order))) in
    rw (all, filter_more p a (n + m), gap, here) refl

-- where no number from some place on passes, ranges that reach it have the same numbers
pub filter_end : (p : ℕ → Bool) (a n m : ℕ) → ((j : ℕ) → a + n ≤ j → p j ≡ false) → ((j : ℕ) → a + m ≤ j → p j ≡ false)
    → filter p (range_with_len a n) ≡ filter p (range_with_len a m)
filter_end p a n m none also = elim (cases_lt n m) [
  | inl less ↦
      let more : n + (m - n) ≡ m = omega (arith, less) in
      sym (filter_gap p a n (m - n) (λ j from below. none j from)) ∙ ap (λ (k : ℕ). filter p (range_with_len a k)) more
  | inr rest ↦
      let more : m + (n - m) ≡ n = omega (arith, rest) in
      sym (ap (λ (k : ℕ). filter p (range_with_len a k)) more) ∙ filter_gap p a m (n - m) (λ j from below. also j from)
]
