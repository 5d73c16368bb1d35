-- The definitions that a definition needs.
use Rattle.std.proofs.Common.{◌≡◌, ◌⊎◌, inl, inr, ℕ, zero, suc, ◌+◌, ◌-◌, ◌<◌, List, length, get_or, drop, map}
use Rattle.std.proofs.Common.{refl, ap, arith, Option, Some, None, Ok, Err}
use Rattle.pdb_base.specs.Answer.{Answer, ◌>>=◌}
use Rattle.pdb_base.specs.Refusal.{refusal_of}
use Rattle.pdb_base.specs.declared.error.Error.{Error}
use Rattle.pdb_base.specs.declared.error.Error.TheVariants.{OutOfMemory}
use Rattle.pdb_base.specs.declared.index.TypeIndex.{TypeIndex}
use Rattle.pdb_tpi.specs.Table.{Table}
use Rattle.pdb_values.specs.declared.type_data.TypeData.{TypeData}
use Rattle.pdb_values.specs.TypeValue.{TypeValue}
use Rattle.pdb_values.specs.TypeView.{type_value}
use Rattle.pdb_types.specs.Definition.{definition_by}
use Rattle.pdb_types.specs.Needs.{held_along, held_by, held_definition, inner_type, need_of, with_need, with_needs}
use Rattle.pdb_types.specs.TypeAt.{type_at}
use Rattle.pdb_types.proofs.LayoutLemmas.{items_from}

-- ---- the definition within a type

pub held_is : (table : Table) (index : ℕ) → held_definition table index ≡ held_along 64 table index
unfolding held_definition
held_is table index = refl

pub held_zero : (most : ℕ) (table : Table) (index : ℕ) → most ≡ 0 → held_along most table index ≡ Ok None
unfolding held_along
held_zero zero table index none = refl
held_zero (suc most) table index none = absurd (omega (arith, none))

abbrev held_after : Table → ℕ → ℕ → Answer TypeValue → Answer (Option ℕ)
held_after table most index value =
    value >>= λ value. held_by (held_along most table) table index value (inner_type value)

held_step : (most : ℕ) (table : Table) (index : ℕ) → 0 < most
    → held_along most table index ≡ held_after table (most - 1) index (type_at table index)
unfolding held_along
held_step zero table index some = absurd (omega (arith, some))
held_step (suc most) table index some =
    let less : most ≡ suc most - 1 = omega arith in
    ap (λ (n : ℕ). held_after table n index (type_at table index)) less

pub held_refused : (most : ℕ) (table : Table) (index : ℕ) (all : Answer (Option ℕ)) (e : Error) → 0 < most
    → all ≡ held_along most table index → (type_at table index ≡ Err (refusal_of e)) ⊎ (e ≡ OutOfMemory)
    → (all ≡ Err (refusal_of e)) ⊎ (e ≡ OutOfMemory)
held_refused most table index all e some so_far (inl is) =
    inl (rw (so_far, held_step most table index some, is) refl)
held_refused most table index all e some so_far (inr memory) = inr memory

pub held_inner : (most next : ℕ) (table : Table) (index : ℕ) (value : TypeValue) (inner : TypeIndex)
    → most ≡ suc next → type_at table index ≡ Ok value → Some inner ≡ inner_type value
    → held_along most table index ≡ held_along next table inner.0
held_inner most next table index value inner more is within =
    let less : most - 1 ≡ next = omega (arith, more) in
    rw (held_step most table index (omega (arith, more)), is, ← within, less) refl

pub held_here : (most : ℕ) (table : Table) (index : ℕ) (value : TypeValue) → 0 < most → type_at table index ≡ Ok value
    → None ≡ inner_type value → held_along most table index ≡ Ok (definition_by table index value)
held_here most table index value some is within = rw (held_step most table index some, is, ← within) refl

-- ---- needs, one after another

abbrev needs_after : Table → List TypeValue → Answer (List ℕ) → Answer (List ℕ)
needs_after table values needs = needs >>= λ more. with_needs table more values

needs_next : (table : Table) (all : Answer (List ℕ)) (items : List TypeData) (i : ℕ) (item : TypeData) (found : List ℕ)
    (needs : Answer (List ℕ)) → all ≡ with_needs table found (map type_value (drop i items)) → i < length items
    → get_or items i item ≡ item → with_need found (need_of table (type_value item)) ≡ needs
    → all ≡ needs_after table (map type_value (drop (i + 1) items)) needs
needs_next table all items i item found needs so_far within here is =
    rw (so_far, items_from items i item within here, is) refl

-- one more record
pub needs_more : (table : Table) (all : Answer (List ℕ)) (items : List TypeData) (i : ℕ) (item : TypeData)
    (found new : List ℕ) → all ≡ with_needs table found (map type_value (drop i items)) → i < length items
    → get_or items i item ≡ item → with_need found (need_of table (type_value item)) ≡ Ok new
    → all ≡ with_needs table new (map type_value (drop (i + 1) items))
needs_more table all items i item found new so_far within here is =
    needs_next table all items i item found (Ok new) so_far within here is

-- a record that is refused
pub needs_refused : (table : Table) (all : Answer (List ℕ)) (items : List TypeData) (i : ℕ) (item : TypeData)
    (found : List ℕ) (e : Error) → all ≡ with_needs table found (map type_value (drop i items)) → i < length items
    → get_or items i item ≡ item
    → (with_need found (need_of table (type_value item)) ≡ Err (refusal_of e)) ⊎ (e ≡ OutOfMemory)
    → (all ≡ Err (refusal_of e)) ⊎ (e ≡ OutOfMemory)
needs_refused table all items i item found e so_far within here (inl is) =
    inl (needs_next table all items i item found (Err (refusal_of e)) so_far within here is)
needs_refused table all items i item found e so_far within here (inr memory) = inr memory
