-- The fields of an index by its own list: how many lists a chain may have at most is no part of the answer.
use Rattle.std.proofs.Common.{◌≡◌, inl, inr, ℕ, zero, suc, ◌<◌, ◌≤◌, refl, sym, ap, ◌∙◌, List, arith, Option, Some}
use Rattle.std.proofs.Common.{None, Ok, Err}
use Rattle.std.proofs.lemmas.Bool.{cases_lt, lt-ltb, le-ltb}
use Rattle.pdb_base.specs.declared.index.TypeIndex.{TypeIndex}
use Rattle.pdb_base.specs.Answer.{Answer, ◌>>=◌}
use Rattle.pdb_values.specs.TypeValue.{TypeValue}
use Rattle.pdb_tpi.specs.Chain.{LookUp, list_of, not_below, in_front, fields_behind, join_fields, chain_along}
use Rattle.pdb_tpi.specs.Chain.{fields_of}

-- ---- where a list goes on

pub goes_below : (behind : ℕ → Answer (List TypeValue)) (index : ℕ) (next : TypeIndex) → next.0 < index
    → fields_behind behind index (Some next) ≡ behind next.0
goes_below behind index next below = rw (lt-ltb next.0 index below) refl

pub goes_up : (behind : ℕ → Answer (List TypeValue)) (index : ℕ) (next : TypeIndex) → index ≤ next.0
    → fields_behind behind index (Some next) ≡ Err not_below
goes_up behind index next above = rw (le-ltb next.0 index above) refl

-- only what is below a list counts
same_continued : (one other : ℕ → Answer (List TypeValue)) (index : ℕ) (continuation : Option TypeIndex)
    → ((i : ℕ) → i < index → one i ≡ other i) → fields_behind one index continuation
    ≡ fields_behind other index continuation
same_continued one other index None same = refl
same_continued one other index (Some next) same = elim (cases_lt next.0 index) [
  | inl below ↦ goes_below one index next below ∙ same next.0 below ∙ sym (goes_below other index next below)
  | inr above ↦ goes_up one index next above ∙ sym (goes_up other index next above)
]

bind_same : {A B : Type 0} (answer : Answer A) (one other : A → Answer B) → ((x : A) → one x ≡ other x)
    → (answer >>= one) ≡ (answer >>= other)
bind_same (Ok x) one other same = same x
bind_same (Err e) one other same = refl

-- how many lists are allowed does not matter, if they are enough
same_along : (most more : ℕ) (look : LookUp) (index : ℕ) → index < most → index < more
    → chain_along most look index ≡ chain_along more look index
same_along zero more look index few enough = absurd (omega (arith, few))
same_along (suc most) zero look index few enough = absurd (omega (arith, enough))
same_along (suc most) (suc more) look index few enough =
    bind_same (list_of look index) (join_fields (chain_along most look) index)
    (join_fields (chain_along more look) index)
    (λ list. ap (in_front list.fields) (same_continued (chain_along most look)
    (chain_along more look) index list.continuation
    (λ i below. same_along most more look i (omega (arith, below, few)) (omega (arith, below, enough)))))

-- the fields of an index are those of its list, and then those of the lists in which it goes on
pub fields_step : (look : LookUp) (index : ℕ)
    → fields_of look index ≡ (list_of look index >>= join_fields (λ i. fields_of look i) index)
unfolding fields_of
fields_step look index =
    bind_same (list_of look index) (join_fields (chain_along index look) index)
    (join_fields (λ i. fields_of look i) index)
    (λ list. ap (in_front list.fields) (same_continued (chain_along index look)
    (λ i. fields_of look i) index list.continuation
    (λ i below. same_along index (suc i) look i below (omega arith))))
