-- What a search for the records from an address on has found, in the words of the definition.
use Rattle.std.proofs.Common.{◌≡◌, ℕ, zero, suc, add-one, ◌-◌, ◌*◌, ◌/◌, ◌<◌, ◌≤◌, inl, inr, Bool, true, false, ◌==◌}
use Rattle.std.proofs.Common.{nat_lt, cond, eqb, ltb, List, [], ◌∷◌, length, get_or, take, drop, map, Option, Some}
use Rattle.std.proofs.Common.{None, option_and_then, unwrap_or, refl, sym, ap, subst, ◌∙◌, arith, eq-eqb}
use Rattle.std.specs.Option.{option_or}
use Rattle.std.proofs.lemmas.Bool.{cases_lt, le-ltb, lt-ltb, ne_eqb, cases_Bool}
use Rattle.std.proofs.lemmas.List.{get_or-map, length-map}
use Rattle.std.specs.List.Sorted.{IsStrictlyIncreasing}
use Rattle.pdb_base.specs.Halving.{Rises, IsFound}
use Rattle.pdb_base.specs.Records.{values_of_size}
use Rattle.pdb_base.proofs.lemmas.Records.{spelled_length, spelled_at}
use Rattle.pdb_frames.specs.Span.{Span, covers, begins, start_at, from_first, from_last, if_first, from_address}
use Rattle.pdb_frames.proofs.Rising.{Above, Rising, rising, above-lower}

-- where the code that a record tells of starts
abbrev pub starts : {A : Type 0} → (A → Span) → List A → List ℕ
starts {A} span records = map (λ (x : A). (span x).start) records

-- ---- above the address nothing starts at it or below it

abbrev starts_at : {A : Type 0} → (A → Span) → ℕ → A → Bool
starts_at span address x = (span x).start == address

abbrev starts_below : {A : Type 0} → (A → Span) → ℕ → A → Bool
starts_below span address x = nat_lt (span x).start address

abbrev starts_above : {A : Type 0} → (A → Span) → ℕ → A → Bool
starts_above span address x = nat_lt address (span x).start

none_at : {A : Type 0} (span : A → Span) (address : ℕ) (xs : List A) → Above address (starts span xs)
    → from_first (starts_at span address) xs ≡ None
none_at span address [] up = refl
none_at span address (x ∷ xs) up =
    let test : eqb (span x).start address ≡ false =
    ne_eqb (span x).start address (λ e. absurd (omega (arith, up.0, e))) in
    rw test (none_at span address xs (above-lower address (span x).start (starts span xs) (omega (arith, up.0)) up.1))

none_below : {A : Type 0} (span : A → Span) (address : ℕ) (xs : List A) → Above address (starts span xs)
    → from_last (starts_below span address) xs ≡ None
none_below span address [] up = refl
none_below span address (x ∷ xs) up =
    let test : ltb (span x).start address ≡ false = le-ltb (span x).start address (omega (arith, up.0)) in
    rw (
      test,
      none_below span address xs (above-lower address (span x).start (starts span xs)
          (omega (arith, up.0)) up.1),
    ) refl

-- ---- what the definition says

-- what is chosen of three
abbrev chosen : {A : Type 0} → (A → Span) → ℕ → Option (List A) → Option (List A) → Option (List A) → List A
chosen {A} span address at below above = unwrap_or
    (option_or at (option_or (option_and_then (if_first (λ (x : A). covers (span x) address)) below) above)) []

from_address-is : {A : Type 0} (span : A → Span) (address : ℕ) (xs : List A)
    → from_address span address xs ≡ chosen span address (from_first (starts_at span address) xs)
    (from_last (starts_below span address) xs) (from_first (starts_above span address) xs)
unfolding from_address
from_address-is span address xs = refl

-- where all start above the address, it is all
all_above : {A : Type 0} (span : A → Span) (address : ℕ) (xs : List A) → Above address (starts span xs)
    → from_address span address xs ≡ xs
all_above span address [] up = from_address-is span address []
all_above span address (x ∷ xs) up =
    let test : ltb address (span x).start ≡ true = lt-ltb address (span x).start up.0 in
    from_address-is span address (x ∷ xs) ∙ rw
    (none_at span address (x ∷ xs) up, none_below span address (x ∷ xs) up, test) refl

-- the first of those above the address is the first of all
first_above : {A : Type 0} (span : A → Span) (address : ℕ) (xs : List A) → Above address (starts span xs)
    → unwrap_or (from_first (starts_above span address) xs) [] ≡ xs
first_above span address [] up = refl
first_above span address (x ∷ xs) up =
    let test : ltb address (span x).start ≡ true = lt-ltb address (span x).start up.0 in
    rw test refl

-- the first record if it covers the address, and else those above the address
covered_or_not : {A : Type 0} (span : A → Span) (address : ℕ) (x : A) (xs : List A) → Above address (starts span xs)
    → chosen span address None (Some (x ∷ xs)) (from_first (starts_above span address) xs)
    ≡ cond (covers (span x) address) (x ∷ xs) xs
covered_or_not {A} span address x xs up =
    elim (cases_Bool (covers (span x) address)) [
      | inl here ↦ rw here refl
      | inr elsewhere ↦ rw elsewhere (first_above span address xs up)
    ]

-- where all but the first start above it, it is all or all but the first
one_not_above : {A : Type 0} (span : A → Span) (address : ℕ) (x : A) (xs : List A) → (span x).start ≤ address
    → Above address (starts span xs) → from_address span address (x ∷ xs) ≡ cond (begins (span x) address) (x ∷ xs) xs
one_not_above span address x xs low up = elim (cases_lt (span x).start address) [
  | inl below ↦
      let other : eqb (span x).start address ≡ false =
      ne_eqb (span x).start address (λ e. absurd (omega (arith, below, e))) in
      let under : ltb (span x).start address ≡ true = lt-ltb (span x).start address below in
      let not_over : ltb address (span x).start ≡ false = le-ltb address (span x).start low in
      from_address-is span address (x ∷ xs)
      ∙ rw (other, under, not_over, none_at span address xs up, none_below span address xs up)
      (covered_or_not span address x xs up)
  | inr not_below ↦
      let same : eqb (span x).start address ≡ true = eq-eqb (span x).start address (omega (arith, low, not_below)) in
      from_address-is span address (x ∷ xs) ∙ rw same refl
]

-- where some item passes, the end from the last is there
last_found : {A : Type 0} (test : A → Bool) (x : A) (xs : List A) → test x ≡ true → (end : List A)
    × (from_last test (x ∷ xs) ≡ Some end)
last_found {A} test x xs passes = elim (from_last test xs) as
    (λ (o : Option (List A)). (end : List A) × (option_or o (cond (test x) (Some (x ∷ xs)) None) ≡ Some end)) [
      | None ↦ (x ∷ xs, rw passes refl)
      | Some end ↦ (end, refl)
    ]

-- what stands before it is then ignored
earlier_ignored : {A : Type 0} (test : A → Bool) (x : A) (xs end : List A) → from_last test xs ≡ Some end
    → from_last test (x ∷ xs) ≡ from_last test xs
earlier_ignored test x xs end found = rw found refl

-- a record that starts below another that isn't above the address doesn't count
two_not_above : {A : Type 0} (span : A → Span) (address : ℕ) (x y : A) (xs : List A) → (span x).start < (span y).start
    → (span y).start ≤ address → from_address span address (x ∷ y ∷ xs) ≡ from_address span address (y ∷ xs)
two_not_above {A} span address x y xs rises low =
    let other : eqb (span x).start address ≡ false =
    ne_eqb (span x).start address (λ e. absurd (omega (arith, rises, low, e))) in
    let not_over : ltb address (span x).start ≡ false = le-ltb address (span x).start (omega (arith, rises, low)) in
    from_address-is span address (x ∷ y ∷ xs) ∙ rw (other, not_over) (elim (cases_lt (span y).start address) [
      | inl below ↦
          let under : ltb (span y).start address ≡ true = lt-ltb (span y).start address below in
          let later = last_found (starts_below span address) y xs under in
          ap (λ (o : Option (List A)). chosen span address (from_first (starts_at span address) (y ∷ xs)) o
          (from_first (starts_above span address) (y ∷ xs)))
          (earlier_ignored (starts_below span address) x (y ∷ xs) later.0 later.1)
          ∙ sym (from_address-is span address (y ∷ xs))
      | inr not_below ↦
          let same : eqb (span y).start address ≡ true =
          eq-eqb (span y).start address (omega (arith, low, not_below)) in
          rw same (sym (from_address-is span address (y ∷ xs) ∙ rw same refl))
    ])

-- ---- what halving has found

-- starts that increase rise
pub starts_rise : {A : Type 0} (span : A → Span) (xs : List A) → IsStrictlyIncreasing (starts span xs)
    → Rises (start_at span xs) (length xs)
starts_rise {A} span xs up i zero before within =
    let same : i ≡ 0 = omega (arith, before) in
    rw same (omega arith)
starts_rise {A} span xs up i (suc j) before within = elim (cases_lt i (suc j)) [
  | inl earlier ↦
      let ih = starts_rise span xs up i j (omega (arith, earlier)) (omega (arith, within)) in
      let step = rw (add-one j) at (up j (omega (arith, within, length-map xs (λ (x : A). (span x).start)))) in
      omega (arith, ih, step)
  | inr here ↦
      let same : i ≡ suc j = omega (arith, before, here) in
      rw same (omega arith)
]

-- none starts at or below the address
none_from : {A : Type 0} (span : A → Span) (address : ℕ) (xs : List A) → Rising (starts span xs)
    → ((j : ℕ) → j < length xs → address < start_at span xs j) → from_address span address xs ≡ xs
none_from span address [] up above = from_address-is span address []
none_from span address (x ∷ xs) up above = all_above span address (x ∷ xs) (above 0 (omega arith), up)

-- those that start behind the first are above the address
above_rest : {A : Type 0} (span : A → Span) (address : ℕ) (x : A) (xs : List A) → Rising (starts span (x ∷ xs))
    → ((j : ℕ) → 0 < j → j < length (x ∷ xs) → address < start_at span (x ∷ xs) j) → Above address (starts span xs)
above_rest span address x [] up above = tt
above_rest span address x (y ∷ ys) up above = (above 1 (omega arith) (omega arith), up.1)

-- the last that starts at or below it stands at a place
last_from : {A : Type 0} (span : A → Span) (address k : ℕ) (xs : List A) (d : A) → Rising (starts span xs)
    → k < length xs → ((j : ℕ) → j ≤ k → start_at span xs j ≤ address)
    → ((j : ℕ) → k < j → j < length xs → address < start_at span xs j)
    → from_address span address xs ≡ cond (begins (span (get_or xs k d)) address) (drop k xs) (drop (suc k) xs)
last_from span address k [] d up within below above = absurd (omega (arith, within))
last_from span address zero (x ∷ xs) d up within below above =
    one_not_above span address x xs (below 0 (omega arith)) (above_rest span address x xs up above)
last_from span address (suc k) (x ∷ []) d up within below above = absurd (omega (arith, within))
last_from span address (suc k) (x ∷ y ∷ xs) d up within below above =
    two_not_above span address x y xs up.0 (below 1 (omega arith))
    ∙ last_from span address k (y ∷ xs) d up.1 (omega (arith, within))
    (λ j before. below (suc j) (omega (arith, before)))
    (λ j behind inside. above (suc j) (omega (arith, behind)) (omega (arith, inside)))

pub found_none : {A : Type 0} (span : A → Span) (address : ℕ) (xs : List A) (last : ℕ)
    → IsFound (start_at span xs) (length xs) address 0 last → IsStrictlyIncreasing (starts span xs)
    → xs ≡ from_address span address xs
found_none span address xs last found up =
    sym (none_from span address xs (rising (starts span xs) up)
    (λ j within. found.above (starts_rise span xs up) j (omega arith) within))

found_last : {A : Type 0} (span : A → Span) (address : ℕ) (xs : List A) (place last : ℕ) (d : A)
    → IsFound (start_at span xs) (length xs) address (suc place) last → IsStrictlyIncreasing (starts span xs)
    → cond (begins (span (get_or xs place d)) address) (drop place xs) (drop (suc place) xs)
    ≡ from_address span address xs
found_last span address xs place last d found up =
    sym (last_from span address place xs d (rising (starts span xs) up) (omega (arith, found.within))
    (λ j before. found.below (starts_rise span xs up) j (omega (arith, before)))
    (λ j behind inside. found.above (starts_rise span xs up) j (omega (arith, behind)) inside))

-- ---- what stands in bytes

pub start_there : {A : Type 0} (span : A → Span) (size : ℕ) (value : List ℕ → A) (bytes : List ℕ) (k : ℕ)
    → k < length bytes / size → start_at span (values_of_size size value bytes) k
    ≡ (span (value (take size (drop (size * k) bytes)))).start
start_there {A} span size value bytes k within =
    get_or-map (λ (x : A). (span x).start) (values_of_size size value bytes) k (value []) 0
    (omega (arith, within, spelled_length size value bytes))
    ∙ ap (λ (x : A). (span x).start) (spelled_at size value bytes k (value []) within)

pub found_in : {A : Type 0} (span : A → Span) (size : ℕ) (value : List ℕ → A) (bytes : List ℕ) (address place last : ℕ)
    → IsFound (start_at span (values_of_size size value bytes)) (length bytes / size) address place last
    → IsFound (start_at span (values_of_size size value bytes))
    (length (values_of_size size value bytes)) address place last
found_in span size value bytes address place last found =
    subst (λ (n : ℕ). IsFound (start_at span (values_of_size size value bytes)) n address place last)
    (sym (spelled_length size value bytes)) found

-- the record before the place found, of which it is known whether the rest begins with it
pub found_there : {A : Type 0} (span : A → Span) (size : ℕ) (value : List ℕ → A) (bytes : List ℕ)
    (address place last start code : ℕ) (first : Bool)
    → IsFound (start_at span (values_of_size size value bytes)) (length bytes / size) address place start
    → place ≡ suc last → code ≡ (span (value (take size (drop (size * last) bytes)))).size
    → first ≡ begins (record { start = start; size = code }) address
    → IsStrictlyIncreasing (starts span (values_of_size size value bytes))
    → cond first (drop last (values_of_size size value bytes)) (drop place (values_of_size size value bytes))
    ≡ from_address span address (values_of_size size value bytes)
found_there {A} span size value bytes address place last start code first found next is begun up =
    let records = values_of_size size value bytes in
    let there = value (take size (drop (size * last) bytes)) in
    let within : last < length bytes / size = omega (arith, next, found.within) in
    let before : last ≡ place - 1 = omega (arith, next) in
    let at : (span there).start ≡ start = sym (start_there span size value bytes last within)
    ∙ ap (λ (n : ℕ). start_at span records n) before ∙ (found.before (omega (arith, next))).0 in
    let first_is : first ≡ begins (span (get_or records last there)) address =
    begun ∙ rw (spelled_at size value bytes last there within, at, is) refl in
    rw (first_is, next) (found_last span address records last start there
    (rw next at (found_in span size value bytes address place start found)) up)
