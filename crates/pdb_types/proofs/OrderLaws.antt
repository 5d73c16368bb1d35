-- Where there is an order, there is no cycle.
use Rattle.std.proofs.Common.{◌≡◌, inl, inr, ℕ, zero, suc, ◌<◌, List, [], ◌∷◌, ◌++◌, length, refl, sym, ap, ◌∙◌}
use Rattle.std.proofs.Common.{arith, append_assoc, subst, length-append}
use Rattle.std.proofs.lemmas.List.Elements.{All-contains, Contains-append_left, Contains-append_right, Contains-push}
use Rattle.std.specs.List.{Contains}
use Rattle.pdb_base.proofs.lemmas.Collected.{ok_is}
use Rattle.pdb_types.specs.Order.{Needs, DoesNeed, Leads, IsRequired, IsOrder, IsCycle}
use Rattle.pdb_types.proofs.OrderLemmas.{head_or_tail, none_contained}

-- an element stands in a list, with so many before it
abbrev IsAt : List ℕ → ℕ → ℕ → Type 0
IsAt list place one = (before : List ℕ) × (after : List ℕ) × (list ≡ before ++ one ∷ after) × (length before ≡ place)

split : (list : List ℕ) (one : ℕ) → Contains list one → (before : List ℕ) × (after : List ℕ) ×
    (list ≡ before ++ one ∷ after)
split [] one there = absurd (none_contained one there)
split (first ∷ rest) one there = elim (head_or_tail first one rest there) [
  | inl same ↦ ([], rest, ap (λ (n : ℕ). n ∷ rest) same)
  | inr later ↦
      let s = split rest one later in
      (first ∷ s.0, s.1, ap (λ (xs : List ℕ). first ∷ xs) s.2)
]

-- what a definition needs stands before it
need_before : (needs : Needs) (roots order : List ℕ) → IsOrder needs roots order → (place one other : ℕ)
    → IsAt order place one → DoesNeed needs one other → (lower : ℕ) × (lower < place) × IsAt order lower other
need_before needs roots order is place one other at need =
    let all = is.behind at.0 at.1 one at.2 in
    let same : need.0 ≡ all.0 = ok_is need.0 all.0 (sym need.1 ∙ all.1) in
    let there : Contains at.0 other = All-contains (Contains at.0) all.0 other all.2
    (subst (λ (xs : List ℕ). Contains xs other) same need.2) in
    let s = split at.0 other there in
    let shorter : length s.0 < place =
    let sum = ap length s.2 ∙ length-append s.0 (other ∷ s.1) in
    let count = at.3 in omega arith in (
      length s.0,
      shorter,
      (
        s.0,
        s.1 ++ one ∷ at.1,
        at.2 ∙ ap (λ (xs : List ℕ). xs ++ one ∷ at.1) s.2 ∙ append_assoc s.0 (other ∷ s.1) (one ∷ at.1),
        refl,
      ),
    )

led_before : (needs : Needs) (roots order : List ℕ) → IsOrder needs roots order → (way : List ℕ) (place one other : ℕ)
    → IsAt order place one → Leads needs one way other → (lower : ℕ) × (lower < place) × IsAt order lower other
led_before needs roots order is [] place one other at leads = need_before needs roots order is place one other at leads
led_before needs roots order is (next ∷ way) place one other at leads =
    let first = need_before needs roots order is place one next at leads.0 in
    let last = led_before needs roots order is way first.0 next other first.2 leads.1 in
    (last.0, (let a = first.1 in let b = last.1 in omega arith), last.2)

never_back : (needs : Needs) (roots order : List ℕ) → IsOrder needs roots order → (way : List ℕ) (one bound place : ℕ)
    → place < bound → IsAt order place one → Leads needs one way one → ⊥
never_back needs roots order is way one zero place below at leads = absurd (omega (arith, below))
never_back needs roots order is way one (suc bound) place below at leads =
    let before = led_before needs roots order is way place one one at leads in
    never_back needs roots order is way one bound before.0 (let b = before.1 in omega arith) before.2 leads

at_some : (order : List ℕ) (one : ℕ) → Contains order one → (place : ℕ) × IsAt order place one
at_some order one there = let s = split order one there in (length s.0, (s.0, s.1, s.2, refl))

reached_at : (needs : Needs) (roots order : List ℕ) → IsOrder needs roots order → (one : ℕ) → IsRequired needs roots one
    → (place : ℕ) × IsAt order place one
reached_at needs roots order is one (inl root) = at_some order one
    (All-contains (Contains order) roots one is.complete root)
reached_at needs roots order is one (inr far) =
    let root = at_some order far.0 (All-contains (Contains order) roots far.0 is.complete far.1) in
    let last = led_before needs roots order is far.2 root.0 far.0 one root.1 far.3 in
    (last.0, last.2)

pub acyclic : (needs : Needs) (roots order cycle : List ℕ) → IsOrder needs roots order → ¬ IsCycle needs roots cycle
acyclic needs roots order cycle is goes =
    let first = reached_at needs roots order is goes.first goes.reached in
    never_back needs roots order is goes.others goes.first (suc first.0) first.0 (omega arith) first.1 goes.leads

-- an order has nothing but what is reached, and all of that
pub complete : (needs : Needs) (roots order : List ℕ) → IsOrder needs roots order → (one : ℕ)
    → IsRequired needs roots one
    → Contains order one
complete needs roots order is one reached =
    let at = reached_at needs roots order is one reached in
    subst (λ (xs : List ℕ). Contains xs one) (sym at.1.2)
    (Contains-append_right at.1.0 (one ∷ at.1.1) one
    (Contains-append_left (one ∷ []) at.1.1 one (Contains-push [] one)))
