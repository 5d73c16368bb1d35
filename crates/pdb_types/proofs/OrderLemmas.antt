-- The search that puts definitions into an order.
use Rattle.std.proofs.Common.{◌≡◌, ◌⊎◌, inl, inr, ℕ, List, [], ◌∷◌, ◌++◌, map, length, refl, sym, ap, ◌∙◌, arith}
use Rattle.std.proofs.Common.{eqb, cond, Option, Some, None, Ok, append_assoc, subst, zero, suc, get_or}
use Rattle.std.proofs.lemmas.Bool.{cases_Bool, eqb-true, eqb-false}
use Rattle.std.proofs.lemmas.List.{append-nil, map-append}
use Rattle.std.proofs.lemmas.List.Elements.{All-nil, All-cons, All-head, All-tail, All-append, All-push, All-pop}
use Rattle.std.proofs.lemmas.List.Elements.{All-contains_itself, All-weaker, Contains-get_or, Contains-push}
use Rattle.std.proofs.lemmas.List.Elements.{Contains-append_left, Contains-append_right, Contains-append_cases}
use Rattle.std.proofs.lemmas.List.Elements.{Contains-push_cases}
use Rattle.std.proofs.lemmas.Map.Views.{All-map-IsPermutation}
use Rattle.std.specs.List.Sorted.{IsPermutation}
use Rattle.std.specs.List.{All, Contains}
use Rattle.pdb_base.specs.declared.index.TypeIndex.{TypeIndex}
use Rattle.pdb_types.specs.declared.declaration_order.Step.{Step}
use Rattle.pdb_types.specs.declared.declaration_order.Step.TheVariants.{Enter, Leave}
use Rattle.pdb_types.specs.declared.declaration_order.Mark.{Mark}
use Rattle.pdb_types.specs.declared.declaration_order.Mark.TheVariants.{Open, Done}
use Rattle.pdb_types.specs.Order.{Needs, DoesNeed, Leads, IsRequired, EachNeed, IsOrder, IsCycle}
use Rattle.pdb_types.specs.Needs.{numbers}
use Rattle.pdb_types.specs.Steps.{entered, leaves, pushed, open_from, cycle_from}

-- ---- what is reached

leads_on : (needs : Needs) (one : ℕ) (way : List ℕ) (last next : ℕ) → Leads needs one way last
    → DoesNeed needs last next
    → Leads needs one (way ++ last ∷ []) next
leads_on needs one [] last next leads more = (leads, more)
leads_on needs one (other ∷ way) last next leads more = (leads.0, leads_on needs other way last next leads.1 more)

reach_on : (needs : Needs) (roots : List ℕ) (one next : ℕ) → IsRequired needs roots one → DoesNeed needs one next
    → IsRequired needs roots next
reach_on needs roots one next (inl root) more = inr (one, root, [], more)
reach_on needs roots one next (inr far) more =
    inr (far.0, far.1, far.2 ++ one ∷ [], leads_on needs far.0 far.2 one next far.3 more)

-- ---- lists, one element after another

-- each element of a list has a property of those before it, in the list or among others
abbrev pub Each : (List ℕ → ℕ → Type 0) → List ℕ → List ℕ → Type 0
Each P before [] = Unit {0}
Each P before (one ∷ after) = P before one × Each P (before ++ one ∷ []) after

each_push : (P : List ℕ → ℕ → Type 0) (before list : List ℕ) (one : ℕ) → Each P before list → P (before ++ list) one
    → Each P before (list ++ one ∷ [])
each_push P before [] one each here = (rw append-nil at here, tt)
each_push P before (other ∷ list) one each here =
    (each.0, each_push P (before ++ other ∷ []) list one each.1 (rw append_assoc here))

each_at : (P : List ℕ → ℕ → Type 0) (others before after : List ℕ) (one : ℕ) → Each P others (before ++ one ∷ after)
    → P (others ++ before) one
each_at P others [] after one each = rw append-nil each.0
each_at P others (other ∷ before) after one each =
    rw append_assoc at (each_at P (others ++ other ∷ []) before after one each.1)

each_front : (P : List ℕ → ℕ → Type 0) (before list more : List ℕ) → Each P before (list ++ more) → Each P before list
each_front P before [] more each = tt
each_front P before (one ∷ list) more each = (each.0, each_front P (before ++ one ∷ []) list more each.1)

-- ---- steps

-- the number of the definition of a step
abbrev pub number : Step → ℕ
number (Enter index) = index.0
number (Leave index) = index.0

-- all that an open definition needs is in the order, or there is a step for it behind its own
abbrev pub IsCovered : Needs → List ℕ → List Step → Type 0
IsCovered needs order [] = Unit {0}
IsCovered needs order (Enter index ∷ steps) = IsCovered needs order steps
IsCovered needs order (Leave index ∷ steps) =
    EachNeed needs index.0 (λ other. Contains order other ⊎ Contains (map number steps) other)
    × IsCovered needs order steps

covered_end : (needs : Needs) (order : List ℕ) (steps more : List Step) → IsCovered needs order (steps ++ more)
    → IsCovered needs order more
covered_end needs order [] more covered = covered
covered_end needs order (Enter index ∷ steps) more covered = covered_end needs order steps more covered
covered_end needs order (Leave index ∷ steps) more covered = covered_end needs order steps more covered.1

still : (order next : List ℕ) (steps last more : List Step)
    → ((other : ℕ) → Contains order other → Contains next other)
    → ((other : ℕ) → Contains (map number last) other → Contains next other ⊎ Contains (map number more) other)
    → (other : ℕ) → Contains order other ⊎ Contains (map number (steps ++ last)) other
    → Contains next other ⊎ Contains (map number (steps ++ more)) other
still order next steps last more kept found other (inl here) = inl (kept other here)
still order next steps last more kept found other (inr ahead) =
    elim (Contains-append_cases (map number steps) (map number last) other (rw map-append at ahead)) [
      | inl before ↦ inr (rw map-append (Contains-append_left (map number steps) (map number more) other before))
      | inr there ↦ elim (found other there) [
        | inl now ↦ inl now
        | inr later ↦ inr (rw map-append (Contains-append_right (map number steps) (map number more) other later))
      ]
    ]

-- the last steps in place of others, where each definition is still in the order or has a step
covered_with : (needs : Needs) (order next : List ℕ) (steps last more : List Step)
    → ((other : ℕ) → Contains order other → Contains next other)
    → ((other : ℕ) → Contains (map number last) other → Contains next other ⊎ Contains (map number more) other)
    → IsCovered needs order (steps ++ last) → IsCovered needs next more → IsCovered needs next (steps ++ more)
covered_with needs order next [] last more kept found covered end = end
covered_with needs order next (Enter index ∷ steps) last more kept found covered end =
    covered_with needs order next steps last more kept found covered end
covered_with needs order next (Leave index ∷ steps) last more kept found covered end = (
  (covered.0.0, covered.0.1, All-weaker _ _ (still order next steps last more kept found) covered.0.0 covered.0.2),
  covered_with needs order next steps last more kept found covered.1 end,
)

covered_entered : (needs : Needs) (order : List ℕ) (indexes : List TypeIndex) → IsCovered needs order (entered indexes)
covered_entered needs order [] = tt
covered_entered needs order (index ∷ indexes) = covered_entered needs order indexes

-- ---- what is open

-- the open definition before, if there is one, needs a definition
abbrev pub IsNeededBy : Needs → Option ℕ → ℕ → Type 0
IsNeededBy needs None one = Unit {0}
IsNeededBy needs (Some before) one = DoesNeed needs before one

-- the last definition that is open behind a step
abbrev pub next_open : Option ℕ → Step → Option ℕ
next_open from (Enter index) = from
next_open from (Leave index) = Some index.0

-- the definition of each step is needed by that of the last step before it that leaves one
abbrev pub IsLinked : Needs → Option ℕ → List Step → Type 0
IsLinked needs from [] = Unit {0}
IsLinked needs from (step ∷ steps) =
    IsNeededBy needs from (number step) × IsLinked needs (next_open from step) steps

-- the last definition that is open
abbrev pub last_open : Option ℕ → List Step → Option ℕ
last_open from [] = from
last_open from (step ∷ steps) = last_open (next_open from step) steps

linked_parts : (needs : Needs) (from : Option ℕ) (steps more : List Step) → IsLinked needs from (steps ++ more)
    → IsLinked needs from steps × IsLinked needs (last_open from steps) more
linked_parts needs from [] more linked = (tt, linked)
linked_parts needs from (step ∷ steps) more linked =
    let parts = linked_parts needs (next_open from step) steps more linked.1 in ((linked.0, parts.0), parts.1)

linked_with : (needs : Needs) (from : Option ℕ) (steps more : List Step) → IsLinked needs from steps
    → IsLinked needs (last_open from steps) more → IsLinked needs from (steps ++ more)
linked_with needs from [] more linked end = end
linked_with needs from (step ∷ steps) more linked end =
    (linked.0, linked_with needs (next_open from step) steps more linked.1 end)

linked_entered : (needs : Needs) (from : Option ℕ) (indexes : List TypeIndex)
    → All (IsNeededBy needs from) (numbers indexes) → IsLinked needs from (entered indexes)
linked_entered needs from [] all = tt
linked_entered needs from (index ∷ indexes) all = (
  All-head (IsNeededBy needs from) index.0 (numbers indexes) all,
  linked_entered needs from indexes (All-tail (IsNeededBy needs from) index.0 (numbers indexes) all),
)

leaves_append : (steps more : List Step) → leaves (steps ++ more) ≡ leaves steps ++ leaves more
leaves_append [] more = refl
leaves_append (Enter index ∷ steps) more = leaves_append steps more
leaves_append (Leave index ∷ steps) more = ap (λ (xs : List TypeIndex). index ∷ xs) (leaves_append steps more)

leaves_entered : (indexes : List TypeIndex) → leaves (entered indexes) ≡ []
leaves_entered [] = refl
leaves_entered (index ∷ indexes) = leaves_entered indexes

-- ---- a cycle

-- each of the definitions needs the next
abbrev pub IsChain : Needs → Option ℕ → List TypeIndex → Type 0
IsChain needs from [] = Unit {0}
IsChain needs from (index ∷ indexes) = IsNeededBy needs from index.0 × IsChain needs (Some index.0) indexes

abbrev pub last_of : Option ℕ → List TypeIndex → Option ℕ
last_of from [] = from
last_of from (index ∷ indexes) = last_of (Some index.0) indexes

chain_open : (needs : Needs) (from : Option ℕ) (steps : List Step) → IsLinked needs from steps
    → IsChain needs from (leaves steps)
chain_open needs from [] linked = tt
chain_open needs from (Enter index ∷ steps) linked = chain_open needs from steps linked.1
chain_open needs from (Leave index ∷ steps) linked = (linked.0, chain_open needs (Some index.0) steps linked.1)

last_open_is : (from : Option ℕ) (steps : List Step) → last_open from steps ≡ last_of from (leaves steps)
last_open_is from [] = refl
last_open_is from (Enter index ∷ steps) = last_open_is from steps
last_open_is from (Leave index ∷ steps) = last_open_is (Some index.0) steps

leads_from : (needs : Needs) (one : ℕ) (indexes : List TypeIndex) (end : ℕ) → IsChain needs (Some one) indexes
    → IsNeededBy needs (last_of (Some one) indexes) end → Leads needs one (numbers indexes) end
leads_from needs one [] end chain last = last
leads_from needs one (index ∷ indexes) end chain last =
    (chain.0, leads_from needs index.0 indexes end chain.1 last)

-- a list of definitions leads from one back to it
abbrev pub LeadsBack : Needs → ℕ → List ℕ → Type 0
LeadsBack needs first cycle = (others : List ℕ) × (cycle ≡ first ∷ others) × Leads needs first others first

pub none_contained : (one : ℕ) → Contains {X = ℕ} [] one → ⊥
none_contained one there = let below = there.1 in absurd (omega (arith, below))

pub head_or_tail : (first one : ℕ) (rest : List ℕ) → Contains (first ∷ rest) one → (first ≡ one) ⊎ Contains rest one
head_or_tail first one rest (zero, below, is) = inl is
head_or_tail first one rest (suc k, below, is) = inr (k, omega (arith, below), is)

leads_back : (needs : Needs) (from : Option ℕ) (first : TypeIndex) (indexes : List TypeIndex)
    → Contains (numbers indexes) first.0 → IsChain needs from indexes
    → IsNeededBy needs (last_of from indexes) first.0
    → LeadsBack needs first.0 (numbers (open_from first indexes))
leads_back needs from first [] there chain last = absurd (none_contained first.0 there)
leads_back needs from first (index ∷ indexes) there chain last = elim (cases_Bool (eqb index.0 first.0)) as
    (λ _. LeadsBack needs first.0 (numbers (open_from first (index ∷ indexes)))) [
      | inl is ↦
          let same = eqb-true index.0 first.0 is in
          rw is (
            numbers indexes,
            ap (λ (n : ℕ). n ∷ numbers indexes) same,
            subst (λ (n : ℕ). Leads needs n (numbers indexes) first.0) same
                (leads_from needs index.0 indexes first.0 chain.1 last),
          )
      | inr other ↦ rw other (elim (head_or_tail index.0 first.0 (numbers indexes) there) [
        | inl same ↦ absurd (eqb-false index.0 first.0 other same)
        | inr later ↦ leads_back needs (Some index.0) first indexes later chain.1 last
      ])
    ]

-- ---- the search

-- What the search for an order has done, and what it has to do: where it started, the steps that are left, the order so
-- far, and the marks of definitions.
pub record IsSearch (needs : Needs) (start : List ℕ) (steps : List Step) (order : List ℕ)
    (mark : ℕ → Option Mark) : Type 0 where
  pub closed : Each (λ before one. EachNeed needs one (Contains before)) [] order
  pub once : Each (λ before one. ¬ Contains before one) [] order
  pub reached : All (IsRequired needs start) order
  pub complete : All (λ root. Contains order root ⊎ Contains (map number steps) root) start
  pub ahead : All (IsRequired needs start) (map number steps)
  pub covered : IsCovered needs order steps
  pub linked : IsLinked needs None steps
  pub open_once : Each (λ before one. ¬ Contains before one) [] (numbers (leaves steps))
  pub done : (q : ℕ) → mark q ≡ Some Done → Contains order q
  pub ordered : (q : ℕ) → Contains order q → mark q ≡ Some Done
  pub is_open : (q : ℕ) → mark q ≡ Some Open → Contains (numbers (leaves steps)) q
  pub are_open : (q : ℕ) → Contains (numbers (leaves steps)) q → mark q ≡ Some Open

-- the marks after one was set
abbrev pub IsMarked : (ℕ → Option Mark) → (ℕ → Option Mark) → ℕ → Mark → Type 0
IsMarked old new one mark = (q : ℕ) → new q ≡ cond (eqb one q) (Some mark) (old q)

-- what is true of the definitions of all steps is true of the last one's, and of the others'
last_ahead : (P : ℕ → Type 0) (steps : List Step) (step : Step) → All P (map number (steps ++ step ∷ []))
    → All P (map number steps) × P (number step)
last_ahead P steps step all = All-pop P (map number (steps ++ step ∷ [])) (map number steps) (Some (number step))
    (map-append number steps (step ∷ [])) all

leaves_enter : (steps : List Step) (index : TypeIndex) → leaves (steps ++ Enter index ∷ []) ≡ leaves steps
leaves_enter steps index = leaves_append steps (Enter index ∷ []) ∙ append-nil (leaves steps)

-- a definition that is in the order is not entered again
pub skip : (needs : Needs) (start : List ℕ) (steps : List Step) (index : TypeIndex) (order : List ℕ)
    (mark : ℕ → Option Mark) → IsSearch needs start (steps ++ Enter index ∷ []) order mark → mark index.0 ≡ Some Done
    → IsSearch needs start steps order mark
skip needs start steps index order mark search is =
    let last : List Step = Enter index ∷ [] in
    let found : (other : ℕ) → Contains (map number last) other → Contains order other ⊎ Contains (map number []) other =
    λ other there. elim (head_or_tail index.0 other [] there) [
      | inl same ↦ inl (subst (Contains order) same (search.done index.0 is))
      | inr none ↦ inr none
    ] in
    record {
      closed = search.closed;
      once = search.once;
      reached = search.reached;
      complete = λ k d within. rw append-nil at
          (still order order steps last [] (λ other there. there) found (get_or start k d)
          (search.complete k d within));
      ahead = (last_ahead (IsRequired needs start) steps (Enter index) search.ahead).0;
      covered = rw append-nil at
          (covered_with needs order order steps last [] (λ other there. there) found search.covered tt);
      linked = (linked_parts needs None steps last search.linked).0;
      open_once = rw leaves_enter at search.open_once;
      done = search.done;
      ordered = search.ordered;
      is_open = rw leaves_enter at search.is_open;
      are_open = rw leaves_enter at search.are_open;
    }

-- an open definition that is entered again closes a cycle
pub cycle : (needs : Needs) (start : List ℕ) (steps : List Step) (index : TypeIndex) (order : List ℕ)
    (mark : ℕ → Option Mark) → IsSearch needs start (steps ++ Enter index ∷ []) order mark → mark index.0 ≡ Some Open
    → IsCycle needs start (numbers (cycle_from steps index))
cycle needs start steps index order mark search is =
    let parts = linked_parts needs None steps (Enter index ∷ []) search.linked in
    let back = leads_back needs None index (leaves steps) (rw leaves_enter at (search.is_open index.0 is))
    (chain_open needs None steps parts.0) (rw last_open_is at parts.1.0) in
    record {
      first = index.0;
      others = back.0;
      are = back.1;
      leads = back.2;
      reached = (last_ahead (IsRequired needs start) steps (Enter index) search.ahead).1;
    }

-- at the end there is an order
pub ends : (needs : Needs) (start order : List ℕ) (mark : ℕ → Option Mark) → IsSearch needs start [] order mark
    → IsOrder needs start order
ends needs start order mark search = record {
  complete = λ k d within. elim (search.complete k d within) [
    | inl here ↦ here
    | inr none ↦ absurd (none_contained (get_or start k d) none)
  ];
  once = λ before after one is. each_at (λ before one. ¬ Contains before one) [] before after one
      (rw is at search.once);
  reached = search.reached;
  behind = λ before after one is. each_at (λ before one. EachNeed needs one (Contains before)) [] before after one
      (rw is at search.closed);
}

-- ---- the steps of the search

marked_cases : (old new : ℕ → Option Mark) (one : ℕ) (mark : Mark) → IsMarked old new one mark → (q : ℕ)
    → ((one ≡ q) × (new q ≡ Some mark)) ⊎ ((one ≡ q → ⊥) × (new q ≡ old q))
marked_cases old new one mark marked q = elim (cases_Bool (eqb one q)) [
  | inl same ↦ inl (eqb-true one q same, marked q ∙ rw same refl)
  | inr other ↦ inr (eqb-false one q other, marked q ∙ rw other refl)
]

numbers_entered : (indexes : List TypeIndex) → map number (entered indexes) ≡ numbers indexes
numbers_entered [] = refl
numbers_entered (index ∷ indexes) = ap (λ (xs : List ℕ). index.0 ∷ xs) (numbers_entered indexes)

-- at the start
pub starts : (needs : Needs) (roots : List TypeIndex) (mark : ℕ → Option Mark) → ((q : ℕ) → mark q ≡ None)
    → IsSearch needs (numbers roots) (entered roots) [] mark
starts needs roots mark none =
    record {
      closed = tt;
      once = tt;
      reached = All-nil (IsRequired needs (numbers roots));
      complete = λ k d within. inr (rw numbers_entered (Contains-get_or (numbers roots) k d within));
      ahead = rw numbers_entered (λ k d within. inl (Contains-get_or (numbers roots) k d within));
      covered = covered_entered needs [] roots;
      linked = linked_entered needs None roots (λ k d within. tt);
      open_once = rw leaves_entered tt;
      done = λ q is. let here = none q in absurd cc;
      ordered = λ q there. absurd (none_contained q there);
      is_open = λ q is. let here = none q in absurd cc;
      are_open = λ q there. absurd (none_contained q (rw leaves_entered at there));
    }

leaves_leave : (steps : List Step) (index : TypeIndex) (indexes : List TypeIndex)
    → numbers (leaves (steps ++ Leave index ∷ entered indexes)) ≡ numbers (leaves steps) ++ index.0 ∷ []
leaves_leave steps index indexes = rw (leaves_append, leaves_entered, map-append) refl

-- a definition is opened, whose needs are to be entered
pub opens : (needs : Needs) (start : List ℕ) (steps : List Step) (index : TypeIndex) (indexes : List TypeIndex)
    (all order : List ℕ) (mark new : ℕ → Option Mark) → IsSearch needs start (steps ++ Enter index ∷ []) order mark
    → mark index.0 ≡ None → needs index.0 ≡ Ok all → All (Contains (numbers indexes)) all
    → All (Contains all) (numbers indexes) → IsMarked mark new index.0 Open
    → IsSearch needs start (pushed (steps ++ Leave index ∷ []) indexes) order new
opens needs start steps index indexes all order mark new search fresh are there back marked =
    let last : List Step = Enter index ∷ [] in
    let more : List Step = Leave index ∷ entered indexes in
    let found : (other : ℕ) → Contains (map number last) other
    → Contains order other ⊎ Contains (map number more) other =
    λ other here. inr (Contains-append_left (index.0 ∷ []) (map number (entered indexes)) other here) in
    let at = last_ahead (IsRequired needs start) steps (Enter index) search.ahead in
    let parts = linked_parts needs None steps last search.linked in
    let need : All (DoesNeed needs index.0) (numbers indexes) = λ k d within. (all, are, back k d within) in
    let behind : All (IsRequired needs start) (map number (entered indexes)) =
    rw numbers_entered (λ k d within. reach_on needs start index.0 (get_or (numbers indexes) k d) at.1
    (need k d within)) in
    let shut : ¬ Contains (numbers (leaves steps)) index.0 = λ contained.
    let is_open = search.are_open index.0 (rw leaves_enter contained) in absurd cc in
    rw append_assoc
    record {
      closed = search.closed;
      once = search.once;
      reached = search.reached;
      complete = λ k d within.
          still order order steps last more (λ other kept. kept) found (get_or start k d) (search.complete k d within);
      ahead = rw map-append (All-append (IsRequired needs start) (map number steps) (map number more) at.0
          (All-cons (IsRequired needs start) index.0 (map number (entered indexes)) at.1 behind));
      covered = covered_with needs order order steps last more (λ other kept. kept) found search.covered (
        (all, are, λ k d within. inr (rw numbers_entered (there k d within))),
        covered_entered needs order indexes,
      );
      linked = linked_with needs None steps more parts.0
          (parts.1.0, linked_entered needs (Some index.0) indexes need);
      open_once = rw leaves_leave (each_push (λ before one. ¬ Contains before one) [] (numbers (leaves steps)) index.0
          (rw leaves_enter at search.open_once) shut);
      done = λ q is. elim (marked_cases mark new index.0 Open marked q) [
        | inl set ↦ let now = set.1 in absurd cc
        | inr old ↦ let now = old.1 in search.done q (sym now ∙ is)
      ];
      ordered = λ q contained. elim (marked_cases mark new index.0 Open marked q) [
        | inl set ↦ let before = search.ordered q contained in let same = set.0 in absurd cc
        | inr old ↦ old.1 ∙ search.ordered q contained
      ];
      is_open = λ q is. rw leaves_leave (elim (marked_cases mark new index.0 Open marked q) [
        | inl set ↦ subst (Contains (numbers (leaves steps) ++ index.0 ∷ [])) set.0
            (Contains-push (numbers (leaves steps)) index.0)
        | inr old ↦ Contains-append_left (numbers (leaves steps)) (index.0 ∷ []) q
            (rw leaves_enter at (search.is_open q (sym old.1 ∙ is)))
      ]);
      are_open = λ q contained. elim (marked_cases mark new index.0 Open marked q) [
        | inl set ↦ set.1
        | inr old ↦ elim (Contains-push_cases (numbers (leaves steps)) index.0 q (rw leaves_leave at contained)) [
          | inl front ↦ old.1 ∙ search.are_open q (rw leaves_enter front)
          | inr same ↦ absurd (old.0 same)
        ]
      ];
    }

-- a definition is left, and comes into the order
pub leave : (needs : Needs) (start : List ℕ) (steps : List Step) (index : TypeIndex) (order : List ℕ)
    (mark new : ℕ → Option Mark) → IsSearch needs start (steps ++ Leave index ∷ []) order mark
    → IsMarked mark new index.0 Done → IsSearch needs start steps (order ++ index.0 ∷ []) new
leave needs start steps index order mark new search marked =
    let last : List Step = Leave index ∷ [] in
    let next = order ++ index.0 ∷ [] in
    let at = last_ahead (IsRequired needs start) steps (Leave index) search.ahead in
    let kept : (other : ℕ) → Contains order other → Contains next other =
    λ other here. Contains-append_left order (index.0 ∷ []) other here in
    let found : (other : ℕ) → Contains (map number last) other → Contains next other ⊎ Contains (map number []) other =
    λ other here. inl (Contains-append_right order (index.0 ∷ []) other here) in
    let were : numbers (leaves (steps ++ last)) ≡ numbers (leaves steps) ++ index.0 ∷ [] = leaves_leave steps index
    [] in
    let open_here : mark index.0 ≡ Some Open =
    search.are_open index.0 (rw were (Contains-push (numbers (leaves steps)) index.0)) in
    let once_open = rw were at search.open_once in
    let shut = each_at (λ before one. ¬ Contains before one) [] (numbers (leaves steps)) [] index.0 once_open in
    let end = (covered_end needs order steps last search.covered).0 in
    record {
      closed = each_push (λ before one. EachNeed needs one (Contains before)) [] order index.0 search.closed (
        end.0,
        end.1,
        λ k d within. elim (end.2 k d within) [
          | inl here ↦ here
          | inr nowhere ↦ absurd (none_contained (get_or end.0 k d) nowhere)
        ],
      );
      once = each_push (λ before one. ¬ Contains before one) [] order index.0 search.once
          (λ contained. let done = search.ordered index.0 contained in absurd cc);
      reached = All-push (IsRequired needs start) order index.0 search.reached at.1;
      complete = λ k d within. rw append-nil at
          (still order next steps last [] kept found (get_or start k d) (search.complete k d within));
      ahead = at.0;
      covered = rw append-nil at (covered_with needs order next steps last [] kept found search.covered tt);
      linked = (linked_parts needs None steps last search.linked).0;
      open_once = each_front (λ before one. ¬ Contains before one) [] (numbers (leaves steps)) (index.0 ∷ []) once_open;
      done = λ q is. elim (marked_cases mark new index.0 Done marked q) [
        | inl set ↦ subst (Contains next) set.0 (Contains-push order index.0)
        | inr old ↦ kept q (search.done q (sym old.1 ∙ is))
      ];
      ordered = λ q contained. elim (marked_cases mark new index.0 Done marked q) [
        | inl set ↦ set.1
        | inr old ↦ elim (Contains-push_cases order index.0 q contained) [
          | inl front ↦ old.1 ∙ search.ordered q front
          | inr same ↦ absurd (old.0 same)
        ]
      ];
      is_open = λ q is. elim (marked_cases mark new index.0 Done marked q) [
        | inl set ↦ let now = set.1 in absurd cc
        | inr old ↦ elim (Contains-push_cases (numbers (leaves steps)) index.0 q
            (rw were at (search.is_open q (sym old.1 ∙ is)))) [
              | inl front ↦ front
              | inr same ↦ absurd (old.0 same)
            ]
      ];
      are_open = λ q contained. elim (marked_cases mark new index.0 Done marked q) [
        | inl set ↦ absurd (shut (subst (Contains (numbers (leaves steps))) (sym set.0) contained))
        | inr old ↦ old.1 ∙ search.are_open q
            (rw were (Contains-append_left (numbers (leaves steps)) (index.0 ∷ []) q contained))
      ];
    }

pub none_left : (steps : List Step) → length steps ≡ 0 → steps ≡ []
none_left [] is = refl
none_left (step ∷ steps) is = absurd (omega (arith, is))

-- the same definitions in another order
pub kept_in : (xs ys : List TypeIndex) → IsPermutation xs ys → All (Contains (numbers xs)) (numbers ys)
kept_in xs ys permuted = All-map-IsPermutation (λ (index : TypeIndex). index.0) (Contains (numbers xs)) xs ys permuted
    (All-contains_itself (numbers xs))
