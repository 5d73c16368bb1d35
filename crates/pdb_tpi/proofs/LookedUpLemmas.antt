-- The lists that are looked up for fields, and what a loop over them has still to read.
use Rattle.std.proofs.Common.{◌≡◌, ◌≢◌, inl, inr, ℕ, zero, suc, add-zero, ◌+◌, ◌≤◌, ◌<◌, List, [], ◌∷◌, map, length}
use Rattle.std.proofs.Common.{refl, sym, ap, ◌∙◌, subst, arith, Option, Some, None, Ok, Err}
use Rattle.std.specs.List.{sum_by}
use Rattle.std.proofs.lemmas.Bool.{cases_lt, lt-ltb, le-ltb}
use Rattle.std.proofs.lemmas.List.Sums.{sum_by-cons}
use Rattle.pdb_base.specs.declared.index.TypeIndex.{TypeIndex}
use Rattle.pdb_base.specs.declared.error.Error.{Error}
use Rattle.pdb_base.specs.declared.error.Error.TheVariants.{OutOfMemory}
use Rattle.pdb_base.specs.Answer.{Answer, Answers}
use Rattle.pdb_base.specs.Count.{after_calls, one_more}
use Rattle.pdb_base.specs.Memory.{HasItem}
use Rattle.pdb_base.specs.Refusal.{Refusal, refusal_of}
use Rattle.pdb_base.proofs.lemmas.Count.{few_calls}
use Rattle.pdb_tpi.specs.Chain.{LookUp, ContinuedList, listed_value, list_of}
use Rattle.pdb_tpi.specs.LookedUp.{lists_behind, lists_after, lists_along, lists_looked_up, OneNeedsMemory}
use Rattle.pdb_tpi.specs.LookedUp.{ListNeedsMemory}

-- ---- the indexes that are looked up

same_behind : (one other : ℕ → List ℕ) (index : ℕ) (continuation : Option TypeIndex)
    → ((i : ℕ) → i < index → one i ≡ other i)
    → lists_behind one index continuation ≡ lists_behind other index continuation
same_behind one other index None same = refl
same_behind one other index (Some next) same = elim (cases_lt next.0 index) [
  | inl below ↦ rw (lt-ltb next.0 index below) (same next.0 below)
  | inr above ↦ rw (le-ltb next.0 index above) refl
]

same_after : (one other : ℕ → List ℕ) (index : ℕ) (answer : Answer ContinuedList)
    → ((i : ℕ) → i < index → one i ≡ other i) → lists_after one index answer ≡ lists_after other index answer
same_after one other index (Ok list) same = same_behind one other index list.continuation same
same_after one other index (Err e) same = refl

-- how many lists are allowed does not matter, if they are enough
same_along : (most more : ℕ) (look : LookUp) (index : ℕ) → index < most → index < more
    → lists_along most look index ≡ lists_along more look index
same_along zero more look index few enough = absurd (omega (arith, few))
same_along (suc most) zero look index few enough = absurd (omega (arith, enough))
same_along (suc most) (suc more) look index few enough =
    ap (λ (lists : List ℕ). index ∷ lists) (same_after (lists_along most look) (lists_along more look) index
    (list_of look index)
    (λ i below. same_along most more look i (omega (arith, below, few)) (omega (arith, below, enough))))

-- the indexes behind one
abbrev pub behind_list : LookUp → ℕ → Option TypeIndex → List ℕ
behind_list look index continuation = lists_behind (λ i. lists_looked_up look i) index continuation

looked_up_step : (look : LookUp) (index : ℕ)
    → lists_looked_up look index ≡ index ∷ lists_after (λ i. lists_looked_up look i) index (list_of look index)
unfolding lists_looked_up
looked_up_step look index =
    ap (λ (lists : List ℕ). index ∷ lists) (same_after (lists_along index look) (λ i. lists_looked_up look i) index
    (list_of look index)
    (λ i below. same_along index (suc i) look i below (omega arith)))

looked_up_listed : (look : LookUp) (index : ℕ) (list : ContinuedList) → list_of look index ≡ Ok list
    → lists_looked_up look index ≡ index ∷ behind_list look index list.continuation
looked_up_listed look index list is = looked_up_step look index ∙ rw is refl

looked_up_refused : (look : LookUp) (index : ℕ) (e : Refusal) → list_of look index ≡ Err e
    → lists_looked_up look index ≡ index ∷ []
looked_up_refused look index e is = looked_up_step look index ∙ rw is refl

goes_below : (look : LookUp) (above : ℕ) (next : TypeIndex) → next.0 < above
    → behind_list look above (Some next) ≡ lists_looked_up look next.0
goes_below look above next below = rw (lt-ltb next.0 above below) refl

-- ---- what is left to read

after_more : (more further calls : ℕ)
    → after_calls further (after_calls more calls) ≡ after_calls (more + further) calls
after_more more zero calls = ap (λ (n : ℕ). after_calls n calls) (sym (add-zero more))
after_more more (suc further) calls =
    let all : suc (more + further) ≡ more + suc further = omega arith in
    ap one_more (after_more more further calls) ∙ ap (λ (n : ℕ). after_calls n calls) all

-- With so many calls counted, these lists are what is left of all: what they read makes up the whole count, and where
-- one takes memory, one of all does.
pub record AreLeft (look : LookUp) (reads : ℕ → ℕ) (all : List ℕ) (first : ℕ) (left : List ℕ) (calls : ℕ) : Type 0 where
  pub exact : after_calls (sum_by reads left) calls ≡ after_calls (sum_by reads all) first
  pub few : calls + sum_by reads left ≤ first + sum_by reads all
  pub memory : OneNeedsMemory look left → OneNeedsMemory look all

pub all_left : (look : LookUp) (reads : ℕ → ℕ) (all : List ℕ) (first : ℕ) → AreLeft look reads all first all first
all_left look reads all first = record { exact = refl; few = omega arith; memory = λ needs. needs }

-- one fewer is left, once its lengths are read
one_fewer : (look : LookUp) (reads : ℕ → ℕ) (all : List ℕ) (first next : ℕ) (left : List ℕ) (calls after : ℕ)
    → AreLeft look reads all first (next ∷ left) calls → after ≡ after_calls (reads next) calls
    → AreLeft look reads all first left after
one_fewer look reads all first next left calls after are is =
    let more = sum_by-cons reads next left in
    record {
      exact = ap (after_calls (sum_by reads left)) is ∙ after_more (reads next) (sum_by reads left) calls
          ∙ ap (λ (n : ℕ). after_calls n calls) (sym more) ∙ are.exact;
      few = omega (arith, are.few, more, is, few_calls (reads next) calls);
      memory = λ needs. are.memory (inr needs);
    }

pub left_listed : (look : LookUp) (reads : ℕ → ℕ) (all : List ℕ) (first next : ℕ) (list : ContinuedList)
    (calls after : ℕ)
    → AreLeft look reads all first (lists_looked_up look next) calls → after ≡ after_calls (reads next) calls
    → list_of look next ≡ Ok list → AreLeft look reads all first (behind_list look next list.continuation) after
left_listed look reads all first next list calls after are is found =
    one_fewer look reads all first next (behind_list look next list.continuation) calls after
    (subst (λ (left : List ℕ). AreLeft look reads all first left calls) (looked_up_listed look next list found) are) is

pub left_below : (look : LookUp) (reads : ℕ → ℕ) (all : List ℕ) (first above : ℕ) (next : TypeIndex) (calls : ℕ)
    → AreLeft look reads all first (behind_list look above (Some next)) calls → next.0 < above
    → AreLeft look reads all first (lists_looked_up look next.0) calls
left_below look reads all first above next calls are below =
    subst (λ (left : List ℕ). AreLeft look reads all first left calls) (goes_below look above next below) are

-- where nothing is left, all is counted
pub none_left : (look : LookUp) (reads : ℕ → ℕ) (all : List ℕ) (first calls : ℕ) → AreLeft look reads all first [] calls
    → (calls ≡ after_calls (sum_by reads all) first) × (calls ≤ first + sum_by reads all)
none_left look reads all first calls are = (
  are.exact,
  let few : calls + 0 ≤ first + sum_by reads all = are.few in
      omega (arith, few),
)

-- a list that is refused is the last one
pub left_refused : (look : LookUp) (reads : ℕ → ℕ) (all : List ℕ) (first next : ℕ) (calls after : ℕ) (e : Error)
    → AreLeft look reads all first (lists_looked_up look next) calls → after ≡ after_calls (reads next) calls
    → Answers listed_value (Err e) (list_of look next)
    → (e ≢ OutOfMemory → after ≡ after_calls (sum_by reads all) first) × (after ≤ first + sum_by reads all)
left_refused look reads all first next calls after e are is (inl found) =
    let last = none_left look reads all first after (one_fewer look reads all first next [] calls after
    (subst (λ (left : List ℕ). AreLeft look reads all first left calls)
    (looked_up_refused look next (refusal_of e) found) are) is) in
    (λ other. last.0, last.1)
left_refused look reads all first next calls after e are is (inr want) =
    let step = looked_up_step look next in
    let left = one_fewer look reads all first next (lists_after (λ i. lists_looked_up look i) next (list_of look next))
    calls after (subst (λ (left : List ℕ). AreLeft look reads all first left calls) step are) is in
    (λ other. absurd (other want), omega (arith, left.few))

-- a list that takes memory is one of all
pub left_needs : (look : LookUp) (reads : ℕ → ℕ) (all : List ℕ) (first next : ℕ) (calls : ℕ)
    → AreLeft look reads all first (lists_looked_up look next) calls → ListNeedsMemory look next
    → OneNeedsMemory look all
left_needs look reads all first next calls are needs =
    are.memory (subst (OneNeedsMemory look) (sym (looked_up_step look next)) (inl needs))

pub has_more : {A B : Type 0} (f : A → B) (xs : List A) → 0 < length xs → HasItem (map f xs)
has_more f [] some = absurd (omega (arith, some))
has_more f (x ∷ xs) some = tt
