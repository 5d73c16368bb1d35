-- Chains of lists of fields: what is answered of them, and how a loop follows one.
use Rattle.std.proofs.Common.{◌≡◌, ◌⊎◌, inl, inr, ℕ, zero, suc, ◌<◌, false, List, [], ◌∷◌, ◌++◌, map, refl, sym, ap}
use Rattle.std.proofs.Common.{◌∙◌, subst, arith, Option, Some, None, Ok, Err}
use Rattle.std.specs.List.{flat_map}
use Rattle.std.proofs.lemmas.Bool.{cases_lt}
use Rattle.std.proofs.lemmas.Bool.Decides.{nat_tests}
use Rattle.std.specs.Ordering.{is_ge, nat_cmp}
use Rattle.std.proofs.lemmas.List.{append_assoc}
use Rattle.std.proofs.lemmas.Grind.{flat_map-append}
use Rattle.pdb_base.specs.declared.index.TypeIndex.{TypeIndex}
use Rattle.std.specs.Global.{Vec}
use Rattle.pdb_base.specs.declared.error.Error.{Error}
use Rattle.pdb_base.specs.Refusal.{Refusal, refusal_of}
use Rattle.pdb_base.specs.Answer.{Answer, Answers}
use Rattle.pdb_values.specs.declared.type_data.TypeData.{TypeData}
use Rattle.pdb_base.proofs.lemmas.Collected.{ok, answer_cases, option_cases}
use Rattle.pdb_values.specs.TypeValue.{TypeValue}
use Rattle.pdb_values.specs.TypeView.{type_value}
use Rattle.pdb_tpi.specs.Chain.{LookUp, ContinuedList, listed_value, list_of, not_below, Lead, IsChain, GoesUp, Breaks}
use Rattle.pdb_tpi.specs.Chain.{in_front, fields_behind, join_fields, fields_of, IsChainAnswer}
use Rattle.pdb_tpi.specs.Chain.Step.{goes_below, goes_up, fields_step}

-- ---- answers

none_in_front : (others : Answer (List TypeValue)) → in_front [] others ≡ others
none_in_front (Ok fields) = refl
none_in_front (Err e) = refl

twice_in_front : (fields more : List TypeValue) (others : Answer (List TypeValue))
    → in_front fields (in_front more others) ≡ in_front (fields ++ more) others
twice_in_front fields more (Ok last) = ap (λ (all : List TypeValue). ok all) (sym (append_assoc fields more last))
twice_in_front fields more (Err e) = refl

pub fields_listed : (look : LookUp) (index : ℕ) (list : ContinuedList) → list_of look index ≡ Ok list
    → fields_of look index ≡ join_fields (λ i. fields_of look i) index list
fields_listed look index list is = fields_step look index ∙ rw is refl

pub fields_refused : (look : LookUp) (index : ℕ) (e : Refusal) → list_of look index ≡ Err e
    → fields_of look index ≡ Err e
fields_refused look index e is = fields_step look index ∙ rw is refl

-- ---- along a chain by a loop: the fields so far, and those of the lists in which the last list goes on

abbrev pub Follows : LookUp → ℕ → List TypeValue → ℕ → Option TypeIndex → Type 0
Follows look index fields above continuation =
    fields_of look index ≡ in_front fields (fields_behind (λ i. fields_of look i) above continuation)

pub follows_more : (look : LookUp) (index : ℕ) (fields : List TypeValue) (above : ℕ) (next : TypeIndex)
    (list : ContinuedList)
    → Follows look index fields above (Some next) → next.0 < above → list_of look next.0 ≡ Ok list
    → Follows look index (fields ++ list.fields) next.0 list.continuation
follows_more look index fields above next list so_far below is =
    so_far
    ∙ ap (in_front fields) (goes_below (λ i. fields_of look i) above next below ∙ fields_listed look next.0 list is)
    ∙ twice_in_front fields list.fields (fields_behind (λ i. fields_of look i) next.0 list.continuation)

pub follows_refused : (look : LookUp) (index : ℕ) (fields : List TypeValue) (above : ℕ) (next : TypeIndex) (e : Refusal)
    → Follows look index fields above (Some next) → next.0 < above → list_of look next.0 ≡ Err e
    → fields_of look index ≡ Err e
follows_refused look index fields above next e so_far below is =
    so_far ∙ ap (in_front fields) (goes_below (λ i. fields_of look i) above next below
    ∙ fields_refused look next.0 e is)

-- ---- what a call that follows a chain answers

-- an index that is not above another, nor the same, is below it
pub not_ge : (a b : ℕ) → is_ge (nat_cmp a b) ≡ false → a < b
not_ge a b is = grind (arith, nat_tests)

-- a list that is refused refuses the fields
pub refused_on : (e : Error) (list : Answer ContinuedList) (fields : Answer (List TypeValue))
    → (list ≡ Err (refusal_of e) → fields ≡ Err (refusal_of e)) → Answers listed_value (Err e) list
    → Answers {X = Vec TypeData} (λ fields. map type_value fields.items) (Err e) fields
refused_on e list fields on (inl is) = inl (on is)
refused_on e list fields on (inr want) = inr want

-- ---- chains

-- lists that lead to an index stand in front of its fields
led : (look : LookUp) (from : ℕ) (lists : List ContinuedList) (to : ℕ) → Lead look from lists to
    → fields_of look from ≡ in_front (flat_map (λ list. list.fields) lists) (fields_of look to)
led look from [] to same = ap (λ (i : ℕ). fields_of look i) same ∙ sym (none_in_front (fields_of look to))
led look from (list ∷ lists) to (is, (next, goes_on, below, lead)) =
    fields_listed look from list is
    ∙ rw (goes_on, goes_below (λ i. fields_of look i) from next below, led look next.0 lists to lead) refl
    ∙ twice_in_front list.fields (flat_map (λ list. list.fields) lists) (fields_of look to)

last_fields : (look : LookUp) (at : ℕ) (last : ContinuedList) → list_of look at ≡ Ok last → last.continuation ≡ None
    → fields_of look at ≡ Ok (flat_map (λ list. list.fields) (last ∷ []))
last_fields look at last is ends = fields_listed look at last is ∙ rw ends refl

chain_fields : (look : LookUp) (index : ℕ) (lists : List ContinuedList) → IsChain look index lists
    → fields_of look index ≡ Ok (flat_map (λ list. list.fields) lists)
chain_fields look index lists chain =
    led look index chain.before chain.at chain.lead
    ∙ ap (in_front (flat_map (λ list. list.fields) chain.before))
    (last_fields look chain.at chain.last chain.is_last chain.ends)
    ∙ ap (λ (all : List TypeValue). ok all) (sym
    (flat_map-append (λ (list : ContinuedList). list.fields) chain.before (chain.last ∷ []))
    ∙ ap (λ (all : List ContinuedList). flat_map (λ list. list.fields) all) (sym chain.are))

break_refuses : (look : LookUp) (at : ℕ) (refusal : Refusal) → (list_of look at ≡ Err refusal)
    ⊎ (GoesUp look at × (refusal ≡ not_below)) → fields_of look at ≡ Err refusal
break_refuses look at refusal (inl is) = fields_refused look at refusal is
break_refuses look at refusal (inr (up, is)) =
    fields_listed look at up.list up.is
    ∙ rw (up.goes_on, goes_up (λ i. fields_of look i) at up.next up.above, is) refl

chain_refused : (look : LookUp) (index : ℕ) (refusal : Refusal) → Breaks look index refusal
    → fields_of look index ≡ Err refusal
chain_refused look index refusal broken =
    led look index broken.before broken.at broken.lead
    ∙ ap (in_front (flat_map (λ list. list.fields) broken.before)) (break_refuses look broken.at refusal broken.why)

-- each index has a chain, or one that breaks
abbrev HasChain : LookUp → ℕ → Type 0
HasChain look index = ((lists : List ContinuedList) × IsChain look index lists)
    ⊎ ((refusal : Refusal) × Breaks look index refusal)

chain_more : (look : LookUp) (index : ℕ) (list : ContinuedList) (next : TypeIndex) → list_of look index ≡ Ok list
    → list.continuation ≡ Some next → next.0 < index → HasChain look next.0 → HasChain look index
chain_more look index list next is goes_on below (inl (lists, chain)) =
    inl (
      list ∷ lists,
      record {
        before = list ∷ chain.before;
        at = chain.at;
        last = chain.last;
        are = ap (λ (all : List ContinuedList). list ∷ all) chain.are;
        lead = (is, (next, goes_on, below, chain.lead));
        is_last = chain.is_last;
        ends = chain.ends;
      },
    )
chain_more look index list next is goes_on below (inr (refusal, broken)) =
    inr (
      refusal,
      record {
        before = list ∷ broken.before;
        at = broken.at;
        lead = (is, (next, goes_on, below, broken.lead));
        why = broken.why;
      },
    )

has_chain : (most : ℕ) (look : LookUp) (index : ℕ) → index < most → HasChain look index
has_chain zero look index few = absurd (omega (arith, few))
has_chain (suc most) look index few = elim (answer_cases (list_of look index)) [
  | inr (e, is) ↦ inr (e, record { before = []; at = index; lead = refl; why = inl is })
  | inl (list, is) ↦ elim (option_cases list.continuation) [
    | inl ends ↦ inl (
      list ∷ [],
      record {
        before = [];
        at = index;
        last = list;
        are = refl;
        lead = refl;
        is_last = is;
        ends = ends;
      },
    )
    | inr (next, goes_on) ↦ elim (cases_lt next.0 index) [
      | inl below ↦ chain_more look index list next is goes_on below
          (has_chain most look next.0 (omega (arith, below, few)))
      | inr above ↦ inr (
        not_below,
        record {
          before = [];
          at = index;
          lead = refl;
          why =
              inr (record { list = list; next = next; is = is; goes_on = goes_on; above = above }, refl);
        },
      )
    ]
  ]
]

-- ---- there is one chain

one_chain_from : (look : LookUp) (from : ℕ) (before others : List ContinuedList) (at to : ℕ) (last end : ContinuedList)
    → Lead look from before at → list_of look at ≡ Ok last → last.continuation ≡ None
    → Lead look from others to → list_of look to ≡ Ok end → end.continuation ≡ None → before ++ last ∷ [] ≡ others
    ++ end ∷ []
one_chain_from look from [] [] at to last end here is ends there also done =
    let same : last ≡ end = cc in ap (λ (l : ContinuedList). l ∷ []) same
one_chain_from look from [] (list ∷ others) at to last end here is ends
    (first, (next, goes_on, below, lead)) also done =
    absurd cc
one_chain_from look from (list ∷ before) [] at to last end
    (first, (next, goes_on, below, lead)) is ends there also done =
    absurd cc
one_chain_from look from (list ∷ before) (other ∷ others) at to last end (first, (next, goes_on, below, lead)) is ends
    (second, (other_next, also_on, also_below, also_lead)) also done =
    let same : list ≡ other = cc in
    let same_next : next ≡ other_next = cc in
    let behind = one_chain_from look next.0 before others at to last end lead is ends
    (subst (λ (n : TypeIndex). Lead look n.0 others to) (sym same_next) also_lead) also done in
    ap (λ (l : ContinuedList). l ∷ (before ++ last ∷ [])) same ∙ ap (λ (all : List ContinuedList). other ∷ all) behind

pub chain_answer : (look : LookUp) (index : ℕ) → IsChainAnswer look index
chain_answer look index =
    let has = has_chain (suc index) look index (omega arith) in
    record {
      joined = chain_fields look index;
      chained = λ fields is. elim has [
        | inl (lists, chain) ↦ (lists, chain, (let whole = chain_fields look index lists chain in cc))
        | inr (refusal, broken) ↦ absurd (let bad = chain_refused look index refusal broken in cc)
      ];
      one = λ lists others chain other. chain.are
          ∙ one_chain_from look index chain.before other.before chain.at other.at chain.last other.last chain.lead
          chain.is_last chain.ends other.lead other.is_last other.ends
          ∙ sym other.are;
      refused = chain_refused look index;
      broken = λ refusal is. elim has [
        | inl (lists, chain) ↦ absurd (let whole = chain_fields look index lists chain in cc)
        | inr (other, broken) ↦
            let bad = chain_refused look index other broken in
            let same : other ≡ refusal = cc in
            subst (Breaks look index) same broken
      ];
      never_both = λ lists refusal chain broken.
          let whole = chain_fields look index lists chain in
          let bad = chain_refused look index refusal broken in
          cc;
    }
