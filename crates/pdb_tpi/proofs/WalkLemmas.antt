-- The walk, one item after another.
use Rattle.std.proofs.Common.{◌≡◌, ℕ, zero, suc, ◌+◌, ◌-◌, ◌^◌, ◌≤◌, ◌<◌, ltb, cond, List, [], ◌∷◌, length, drop, refl}
use Rattle.std.proofs.Common.{ap, ◌∙◌, arith, Ok, Err, Some, None, inl, inr}
use Rattle.std.specs.List.{slice_get}
use Rattle.std.proofs.lemmas.Bool.{le-ltb, lt-ltb}
use Rattle.std.proofs.lemmas.Bool.Decides.{nat_tests}
use Rattle.std.proofs.lemmas.List.{drop-drop, length-drop}
use Rattle.std.proofs.lemmas.Option.{slice_get_past}
use Rattle.pdb_base.specs.Refusal.{Refusal, type_not_found}
use Rattle.pdb_base.proofs.lemmas.Collected.{answer_cases}
use Rattle.pdb_base.specs.Count.{one_more}
use Rattle.pdb_tpi.specs.Table.{Table}
use Rattle.pdb_tpi.specs.Walk.{first_item, behind, items, rest, fault_of}
use Rattle.pdb_tpi.specs.Steps.{room, walk, walk_rest, nth_item, reads_one}
use Rattle.pdb_tpi.specs.Place.{IsPlace}
use Rattle.pdb_tpi.proofs.FrontLemmas.{front_item}

-- ---- one step of the walk

pub items_more : (limit : ℕ) (bytes item : List ℕ) → first_item bytes ≡ Ok item → items (suc limit) bytes ≡ item
    ∷ items limit (behind item bytes)
unfolding items
items_more limit bytes item e = rw e refl

pub rest_more : (limit : ℕ) (bytes item : List ℕ) → first_item bytes ≡ Ok item
    → rest (suc limit) bytes ≡ rest limit (behind item bytes)
unfolding rest
rest_more limit bytes item e = rw e refl

pub items_none : (limit : ℕ) (bytes : List ℕ) (fault : Refusal) → first_item bytes ≡ Err fault → items limit bytes ≡ []
unfolding items
items_none zero bytes fault e = refl
items_none (suc limit) bytes fault e = rw e refl

pub rest_none : (limit : ℕ) (bytes : List ℕ) (fault : Refusal) → first_item bytes ≡ Err fault → rest limit bytes ≡ bytes
unfolding rest
rest_none zero bytes fault e = refl
rest_none (suc limit) bytes fault e = rw e refl

pub items_full : (bytes : List ℕ) → items 0 bytes ≡ []
unfolding items
items_full bytes = refl

pub rest_full : (bytes : List ℕ) → rest 0 bytes ≡ bytes
unfolding rest
rest_full bytes = refl

-- there are no more items than the limit
pub items_few : (limit : ℕ) (bytes : List ℕ) → length (items limit bytes) ≤ limit
items_few zero bytes = rw (items_full bytes) (omega arith)
items_few (suc limit) bytes = elim (answer_cases (first_item bytes)) [
  | inl (item, e) ↦ rw (items_more limit bytes item e) (omega (arith, items_few limit (behind item bytes)))
  | inr (fault, e) ↦ rw (items_none (suc limit) bytes fault e) (omega arith)
]

-- ---- what is left of a list

pub dropped_some : {A : Type 0} (n : ℕ) (xs : List A) (x : A) (ys : List A) → drop n xs ≡ x ∷ ys
    → (slice_get xs n ≡ Some x) × (n < length xs) × (drop (suc n) xs ≡ ys)
dropped_some zero [] x ys e = absurd cc
dropped_some {A} zero (z ∷ zs) x ys e =
    (cc, omega arith, cc)
dropped_some (suc n) [] x ys e = absurd cc
dropped_some (suc n) (z ∷ zs) x ys e = let ih = dropped_some n zs x ys e in (ih.0, (let h = ih.1 in omega arith), ih.2)

pub dropped_none : {A : Type 0} (n : ℕ) (xs : List A) → drop n xs ≡ [] → length xs ≤ n
dropped_none zero [] e = omega arith
dropped_none zero (z ∷ zs) e = absurd cc
dropped_none (suc n) [] e = omega arith
dropped_none (suc n) (z ∷ zs) e = let ih = dropped_none n zs e in omega arith

-- ---- where an iterator stands

-- The item before which an iterator is, and where it is past that item.
pub record IsNext (table : Table) (index position : ℕ) (item : List ℕ) : Type 0 where
  pub is : slice_get (walk table) (index - table.header.minimum_index) ≡ Some item
  pub within : index - table.header.minimum_index < length (walk table)
  pub next : IsPlace table (index + 1) (position + (2 + length item))

-- behind the last item an iterator is before the walk's rest
pub record IsBehind (table : Table) (index position : ℕ) : Type 0 where
  pub all : length (walk table) ≡ index - table.header.minimum_index
  pub none : slice_get (walk table) (index - table.header.minimum_index) ≡ None
  pub rest : walk_rest table ≡ drop position table.bytes

behind_last : (table : Table) (index position : ℕ) → IsPlace table index position
    → items (room table - (index - table.header.minimum_index)) (drop position table.bytes) ≡ []
    → rest (room table - (index - table.header.minimum_index)) (drop position table.bytes) ≡ drop position table.bytes
    → IsBehind table index position
behind_last table index position place none left =
    let n = index - table.header.minimum_index in
    let all : length (walk table) ≤ n = dropped_none n (walk table) (place.goes_on.items ∙ none) in
    record {
      all = let reached = place.reached in omega arith;
      none = slice_get_past (walk table) n all;
      rest = place.goes_on.rest ∙ left;
    }

pub place_end : (table : Table) (index position : ℕ) (fault : Refusal) → IsPlace table index position
    → first_item (drop position table.bytes) ≡ Err fault → IsBehind table index position
place_end table index position fault place e =
    let left = room table - (index - table.header.minimum_index) in
    behind_last table index position place (items_none left (drop position table.bytes) fault e)
    (rest_none left (drop position table.bytes) fault e)

pub place_full : (table : Table) (index position : ℕ) → IsPlace table index position → 2 ^ 32 ≤ index
    → IsBehind table index position
place_full table index position place last =
    let least = place.least in
    let left : room table - (index - table.header.minimum_index) ≡ 0 = omega arith in
    behind_last table index position place
    (ap (λ (n : ℕ). items n (drop position table.bytes)) left ∙ items_full (drop position table.bytes))
    (ap (λ (n : ℕ). rest n (drop position table.bytes)) left ∙ rest_full (drop position table.bytes))

pub place_next : (table : Table) (index position : ℕ) (item : List ℕ) → IsPlace table index position
    → first_item (drop position table.bytes) ≡ Ok item → index < 2 ^ 32 → IsNext table index position item
place_next table index position item place e last =
    let n = index - table.header.minimum_index in
    let bytes = drop position table.bytes in
    let least = place.least in
    let left : room table - n ≡ suc (room table - suc n) = omega arith in
    let here : drop n (walk table) ≡ item ∷ items (room table - suc n) (behind item bytes) =
    place.goes_on.items ∙ ap (λ (k : ℕ). items k bytes) left ∙ items_more (room table - suc n) bytes item e in
    let step = dropped_some n (walk table) item (items (room table - suc n) (behind item bytes)) here in
    let front = front_item bytes item e in
    let further : behind item bytes ≡ drop (position + (2 + length item)) table.bytes =
    drop-drop (2 + length item) position table.bytes in
    let one : index + 1 - table.header.minimum_index ≡ suc n = omega arith in
    record {
      is = step.0;
      within = step.1;
      next = record {
        least = omega arith;
        reached = rw one (let h = step.1 in omega arith);
        far = let far = place.far in let kind = front.kind in omega arith;
        within = let within = front.within in let before = place.within in
            omega (arith, length-drop position table.bytes);
        short = place.short;
        goes_on = rw one (record {
          items = step.2 ∙ ap (λ (b : List ℕ). items (room table - suc n) b) further;
          rest = place.goes_on.rest ∙ ap (λ (k : ℕ). rest k bytes) left ∙ rest_more (room table - suc n) bytes item e
              ∙ ap (λ (b : List ℕ). rest (room table - suc n) b) further;
        });
      };
    }

-- ---- what is read there

pub nth_some : (table : Table) (n : ℕ) (item : List ℕ) → slice_get (walk table) n ≡ Some item
    → nth_item table n ≡ Ok item
unfolding nth_item
nth_some table n item e = rw e refl

pub nth_none : (table : Table) (n : ℕ) → slice_get (walk table) n ≡ None
    → nth_item table n ≡ Err (fault_of (walk_rest table))
unfolding nth_item
nth_none table n e = rw e refl

pub fault_is : (bytes : List ℕ) (fault : Refusal) → first_item bytes ≡ Err fault → fault_of bytes ≡ fault
unfolding fault_of
fault_is bytes fault e = rw e refl

pub fault_whole : (bytes item : List ℕ) → first_item bytes ≡ Ok item → fault_of bytes ≡ type_not_found 0xffffffff
unfolding fault_of
fault_whole bytes item e = rw e refl

abbrev pub counted : List ℕ → ℕ → ℕ
counted bytes calls = cond (ltb (length bytes) 2) calls (one_more calls)

pub reads_next : (table : Table) (index position calls : ℕ) (item : List ℕ) → IsNext table index position item
    → first_item (drop position table.bytes) ≡ Ok item
    → counted (drop position table.bytes) calls ≡ reads_one (record { table = table; index = index }) calls
reads_next table index position calls item next e =
    let within = (front_item (drop position table.bytes) item e).within in
    rw (
      le-ltb (length (drop position table.bytes)) 2 (omega arith),
      lt-ltb (index - table.header.minimum_index) (length (walk table)) next.within,
    ) refl

pub reads_behind : (table : Table) (index position calls : ℕ) → IsBehind table index position
    → counted (drop position table.bytes) calls ≡ reads_one (record { table = table; index = index }) calls
reads_behind table index position calls is =
    rw (le-ltb (index - table.header.minimum_index) (length (walk table)) (omega (arith, is.all)), is.rest)
    (let bytes = drop position table.bytes in grind (arith, nat_tests))

-- ---- what a read answers

pub read_next : (table : Table) (index position : ℕ) (item : List ℕ) → IsNext table index position item
    → nth_item table (index - table.header.minimum_index) ≡ Ok item
read_next table index position item next = nth_some table (index - table.header.minimum_index) item next.is

pub read_fault : (table : Table) (index position : ℕ) (fault : Refusal) → IsPlace table index position
    → first_item (drop position table.bytes) ≡ Err fault
    → nth_item table (index - table.header.minimum_index) ≡ Err fault
read_fault table index position fault place e =
    let end = place_end table index position fault place e in
    nth_none table (index - table.header.minimum_index) end.none
    ∙ rw (end.rest, fault_is (drop position table.bytes) fault e) refl

pub read_full : (table : Table) (index position : ℕ) (item : List ℕ) → IsPlace table index position
    → first_item (drop position table.bytes) ≡ Ok item → 2 ^ 32 ≤ index
    → nth_item table (index - table.header.minimum_index) ≡ Err (type_not_found 0xffffffff)
read_full table index position item place e last =
    let end = place_full table index position place last in
    nth_none table (index - table.header.minimum_index) end.none
    ∙ rw (end.rest, fault_whole (drop position table.bytes) item e) refl
