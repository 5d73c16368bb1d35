-- A look-up takes no memory, and the look-ups for the fields of an index read eight lengths at most for each list.
use Rattle.std.proofs.Common.{◌≡◌, ◌≢◌, inl, inr, ℕ, zero, suc, ◌+◌, ◌-◌, ◌*◌, ◌≤◌, ◌<◌, ◌&&◌, leb, ltb, List, [], ◌∷◌}
use Rattle.std.proofs.Common.{length, refl, sym, ap, ◌∙◌, arith, Option, Some, None, Ok, Err}
use Rattle.std.specs.List.{sum_by}
use Rattle.std.proofs.lemmas.Bool.{and_parts, cases_lt, cond_both, le-leb, le-ltb, leb-true, lt-ltb}
use Rattle.std.proofs.lemmas.List.Sums.{sum_by-cons}
use Rattle.pdb_base.specs.declared.index.TypeIndex.{TypeIndex}
use Rattle.pdb_base.specs.Answer.{Answer}
use Rattle.pdb_base.specs.Refusal.{Refusal, out_of_memory, type_not_found}
use Rattle.pdb_base.proofs.lemmas.Collected.{err, ok_is_no_err, bind_ok}
use Rattle.pdb_tpi.specs.declared.fields.Types.{Types}
use Rattle.pdb_tpi.specs.declared.fields.Types.TheVariants as places
use Rattle.pdb_tpi.specs.Table.{Table}
use Rattle.pdb_tpi.specs.Walk.{fault_of}
use Rattle.pdb_tpi.specs.Steps.{walk, walk_rest, nth_item}
use Rattle.pdb_tpi.specs.Chain.{LookUp, ContinuedList, list_of}
use Rattle.pdb_tpi.specs.Finder.{has_index, block_of, IsLearned, item_of, find_of, reads_of, reads_from}
use Rattle.pdb_tpi.specs.LookUp.{answers}
use Rattle.pdb_tpi.specs.LookedUp.{lists_behind, lists_after, lists_along, lists_looked_up}
pub use Rattle.pdb_records.proofs.MemoryLemmas.{passes_no_want, wants_on}
use Rattle.pdb_tpi.proofs.lemmas.Faults.{rest_follows}
use Rattle.pdb_tpi.proofs.StepLemmas.{nth_err}
use Rattle.pdb_tpi.proofs.FinderLemmas.{few_reads, few_reads_from, has_counted}

-- ---- memory

-- the fault at which a walk stops is no lack of memory
fault_no_want : (bytes : List ℕ) → fault_of bytes ≢ out_of_memory
fault_no_want bytes is =
    let first = ((rest_follows bytes).refused out_of_memory).0 (ap (λ (r : Refusal). err {A = Unit {0}} r) is) in
    elim first [
      | inl short ↦ let e = short.1 in cc
      | inr long ↦ elim long.1 [
        | inl few ↦ let e = few.1 in cc
        | inr some ↦ elim some.1 [
          | inl cut ↦ let e = cut.1 in cc
          | inr whole ↦ elim whole.1 [ inl past ↦ let e = past.1 in cc | inr none ↦ none.1 ]
        ]
      ]
    ]

nth_no_want : (table : Table) (n : ℕ) → nth_item table n ≢ Err out_of_memory
nth_no_want table n is = fault_no_want (walk_rest table) (nth_err table n out_of_memory is).1

item_no_want : (table : Table) (i : ℕ) → item_of table i ≢ Err out_of_memory
unfolding item_of
item_no_want table i =
    let never = λ (r : Answer (List ℕ)). r ≢ Err out_of_memory in
    cond_both (ltb i table.header.minimum_index) _ _ never (λ _ is. cc)
    (λ _. cond_both (leb table.header.maximum_index i) _ _ never (λ _ is. cc)
    (λ _. nth_no_want table (i - table.header.minimum_index)))

find_no_want : (table : Table) (known i : ℕ) → find_of table known i ≢ Err out_of_memory
unfolding find_of
find_no_want table known i =
    cond_both (has_index table i && leb known (block_of table i)) _ _ (λ (r : Answer (List ℕ)). r ≢ Err out_of_memory)
    (λ _ is. cc) (λ _. item_no_want table i)

pub answers_no_want : (types : Types) (i : ℕ) → answers types i ≢ Err out_of_memory
answers_no_want (places.Known finder) i = find_no_want finder.now.table finder.now.known i
answers_no_want (places.All table) i = item_no_want table.now.table i

-- ---- what a chain reads

few_sum : (reads : ℕ → ℕ) → ((i : ℕ) → reads i ≤ 8) → (indexes : List ℕ) → sum_by reads indexes ≤ 8 * length indexes
few_sum reads few [] = omega arith
few_sum reads few (i ∷ indexes) = omega (arith, few i, few_sum reads few indexes, sum_by-cons reads i indexes)

-- eight lengths at most for each list, where each list's block is to be known
pub few_found : (table : Table) (known : ℕ) (look : LookUp) (index before now : ℕ)
    → now ≤ before + sum_by (reads_of table known) (lists_looked_up look index)
    → now ≤ before + 8 * length (lists_looked_up look index)
few_found table known look index before now few =
    omega (arith, few, few_sum (reads_of table known) (few_reads table known) (lists_looked_up look index))

item_past : (table : Table) (i : ℕ) → table.header.minimum_index ≤ i → table.header.maximum_index ≤ i
    → item_of table i ≡ Err (type_not_found i)
unfolding item_of
item_past table i least past =
    rw (le-ltb i table.header.minimum_index least, le-leb table.header.maximum_index i past) refl

-- an item that is a list is counted by the header, or below the minimum
list_counted : (table : Table) (i : ℕ) (list : ContinuedList) → list_of (item_of table) i ≡ Ok list
    → table.header.minimum_index ≤ i → i < table.header.maximum_index
unfolding list_of
list_counted table i list is least = elim (cases_lt i table.header.maximum_index) [
  | inl below ↦ below
  | inr past ↦
      let found = bind_ok (item_of table i) _ list is in
      absurd (ok_is_no_err found.0 (type_not_found i) (sym found.1 ∙ item_past table i least past))
]

-- what is learned for a list is learned for those that continue it
learned_below : (table : Table) (known i next : ℕ) (list : ContinuedList) → IsLearned table known i
    → list_of (item_of table) i ≡ Ok list → next < i → IsLearned table known next
learned_below table known i next list learned is below has =
    let tests = and_parts (leb table.header.minimum_index next) (ltb next table.header.maximum_index) has in
    let least = leb-true table.header.minimum_index next tests.0 in
    let most = list_counted table i list is (omega (arith, least, below)) in
    omega (arith, learned (has_counted table i (omega (arith, least, below)) most), below, least)

-- the lists read few lengths
abbrev ReadFew : Table → ℕ → List ℕ → Type 0
ReadFew table known lists = sum_by (reads_from table known) lists ≤ 8 * length lists

few_behind : (table : Table) (known i : ℕ) (along : ℕ → List ℕ)
    → ((next : ℕ) → IsLearned table known next → ReadFew table known (along next)) → (continuation : Option TypeIndex)
    → ((next : ℕ) → next < i → IsLearned table known next) → ReadFew table known (lists_behind along i continuation)
few_behind table known i along each None learned = omega arith
few_behind table known i along each (Some next) learned = elim (cases_lt next.0 i) [
  | inl below ↦ rw (lt-ltb next.0 i below) (each next.0 (learned next.0 below))
  | inr above ↦ rw (le-ltb next.0 i above) (omega arith)
]

few_after : (table : Table) (known i : ℕ) (along : ℕ → List ℕ)
    → ((next : ℕ) → IsLearned table known next → ReadFew table known (along next)) → (answer : Answer ContinuedList)
    → IsLearned table known i → list_of (item_of table) i ≡ answer → ReadFew table known (lists_after along i answer)
few_after table known i along each (Ok list) learned is = few_behind table known i along each list.continuation
    (λ next below. learned_below table known i next list learned is below)
few_after table known i along each (Err e) learned is = omega arith

few_along : (most : ℕ) (table : Table) (known i : ℕ) → IsLearned table known i
    → ReadFew table known (lists_along most (item_of table) i)
few_along zero table known i learned = omega arith
few_along (suc most) table known i learned =
    let along = lists_along most (item_of table) in
    let behind = few_after table known i along (few_along most table known) (list_of (item_of table) i) learned refl in
    let more = sum_by-cons (reads_from table known) i (lists_after along i (list_of (item_of table) i)) in
    omega (arith, behind, few_reads_from table known i learned, more)

-- and so once nothing is left to learn for the first
pub few_chained : (table : Table) (known i before now : ℕ) → IsLearned table known i
    → now ≤ before + sum_by (reads_from table known) (lists_looked_up (item_of table) i)
    → now ≤ before + 8 * length (lists_looked_up (item_of table) i)
unfolding lists_looked_up
few_chained table known i before now learned few = omega (arith, few, few_along (suc i) table known i learned)
