-- The numbers of a table are those of its definitions.
use Rattle.std.proofs.Common.{◌≡◌, ◌≢◌, inl, inr, ℕ, zero, suc, ◌+◌, ◌-◌, ◌*◌, ◌<◌, ◌≤◌, List, [], ◌∷◌, ◌++◌}
use Rattle.std.proofs.Common.{length}
use Rattle.std.proofs.Common.{get_or, take, drop, refl, sym, ap, ◌∙◌, arith, Bool, true, false, not, cond, eqb}
use Rattle.std.proofs.Common.{ltb}
use Rattle.std.proofs.Common.{leb, Option, Some, None, Ok, Err, Vec, Global}
use Rattle.std.specs.List.{list_any, slice_get}
use Rattle.std.specs.List.Sorted.{IsNonDecreasingBy, IsPartitionPoint, IsPermutation}
use Rattle.std.specs.Option.{option_map_or}
use Rattle.std.specs.Str.{bytes_eq}
use Rattle.std.proofs.Math.Seq.{drop-cons}
use Rattle.std.proofs.Math.ListN.{drop_of_length-le}
use Rattle.std.proofs.lemmas.Bool.{cases_Bool, cases_lt, leb-false, ltb-true, false≢true, and_parts, not-true, or_left}
use Rattle.std.proofs.lemmas.Bool.{or_right, le-ltb, ltb-false, leb-true, eq-eqb, eqb-true}
use Rattle.std.proofs.lemmas.List.{append_assoc, append-nil, get_or-take, get_or-drop, length-take-le, length-drop}
use Rattle.std.proofs.lemmas.List.Folds.{Any-from_list_any, list_any-append, list_any_at}
use Rattle.std.proofs.lemmas.List.Sorted.{list_any-IsPermutation}
use Rattle.std.proofs.lemmas.Option.{get_or_from_slice_get, slice_get_within}
use Rattle.std.proofs.lemmas.Slice.Eq.{bytes_eq-Decides}
use Rattle.pdb_base.specs.Answer.{Answer, Answers, ◌>>=◌}
use Rattle.pdb_base.proofs.lemmas.Collected.{err, err_is, ok_is}
use Rattle.pdb_base.specs.Refusal.{Refusal, refusal_of}
use Rattle.pdb_base.specs.declared.error.Error.{Error}
use Rattle.pdb_values.specs.TypeValue.{TypeValue}
use Rattle.pdb_tpi.specs.Finder.{item_of}
use Rattle.pdb_tpi.specs.Record.{type_of}
use Rattle.pdb_tpi.specs.Steps.{WalkPosition, IsStep, room, body, steps_taken, walk, walk_rest}
use Rattle.pdb_tpi.specs.Table.{Table}
use Rattle.pdb_tpi.specs.Walk.{items, rest, fault_of}
use Rattle.pdb_tpi.proofs.LawLemmas.{item_per_four_bytes}
use Rattle.pdb_tpi.proofs.StepLemmas.{nth_ok, step_some, step_none, step_err}
use Rattle.pdb_tpi.proofs.WalkLemmas.{items_few}
use Rattle.pdb_types.specs.declared.numbering.Numbering.{Numbering}
use Rattle.pdb_types.specs.Declaration.{Declared, TypeName, source_name, decorated_name, bears, declaration_of}
use Rattle.pdb_types.specs.Declaration.{is_forward}
use Rattle.pdb_types.specs.Definition.{defines, declares, if_none_left, whole_table}
use Rattle.pdb_types.specs.Numbering.{most_above, numbering_of, is_numbered, name_number}
use Rattle.pdb_types.specs.Numbering.{source_name_number}
use Rattle.pdb_types.specs.Numbering.{unique_name_number, type_numbers, item_numbers, all_numbers, index_of_number}
use Rattle.pdb_types.specs.Numbering.{HasNumbers}
use Rattle.pdb_types.specs.Numbering.{AreCandidates}
use Rattle.pdb_types.specs.TypeAt.{type_at}

-- ---- each name of a definition that is numbered has its number

-- whether a number is that of a name of the definition of an index
abbrev is_number : Numbering → TypeName → ℕ → ℕ → Bool
is_number numbering name index number = eqb number (name_number numbering name index)

the_number : (numbering : Numbering) (index : ℕ) (name : TypeName)
    → list_any (is_number numbering name index) (name_number numbering name index ∷ []) ≡ true
the_number numbering index name =
    or_left (is_number numbering name index (name_number numbering name index)) false
    (eq-eqb (name_number numbering name index) (name_number numbering name index) refl)

has_source : (numbering : Numbering) (index : ℕ) (text : List ℕ) (declared : Declared) (has : Bool)
    → has ≡ true → bytes_eq declared.name text ≡ true
    → list_any (is_number numbering (source_name text) index)
    (cond has (name_number numbering (source_name declared.name) index ∷ []) []) ≡ true
has_source numbering index text declared has numbered is =
    rw (numbered, (bytes_eq-Decides declared.name text).0 is) (the_number numbering index (source_name text))

has_unique : (numbering : Numbering) (index : ℕ) (text : List ℕ) (unique : Option (List ℕ))
    → option_map_or (λ own. bytes_eq own text) unique false ≡ true
    → list_any (is_number numbering (decorated_name text) index)
    (option_map_or (λ own. name_number numbering (decorated_name own) index ∷ []) unique []) ≡ true
has_unique numbering index text None is = absurd (false≢true is)
has_unique numbering index text (Some own) is =
    rw ((bytes_eq-Decides own text).0 is) (the_number numbering index (decorated_name text))

has_name : (numbering : Numbering) (index : ℕ) (name : TypeName) (declared : Declared)
    → is_numbered numbering name ≡ true → bears name declared ≡ true
    → list_any (is_number numbering name index)
    (source_name_number numbering index declared ++ unique_name_number numbering index declared) ≡ true
has_name numbering index (source_name text) declared numbered is =
    rw list_any-append (or_left _ _ (has_source numbering index text declared numbering.has_source_names numbered is))
has_name numbering index (decorated_name text) declared numbered is =
    rw list_any-append (or_right _ _ (has_unique numbering index text declared.unique_name is))

has_declared : (numbering : Numbering) (index : ℕ) (name : TypeName) (declared : Option Declared)
    → is_numbered numbering name ≡ true → option_map_or (declares name) declared false ≡ true
    → list_any (is_number numbering name index) (option_map_or (λ d. cond (is_forward d) []
    (source_name_number numbering index d ++ unique_name_number numbering index d)) declared []) ≡ true
has_declared numbering index name None numbered is = absurd (false≢true is)
has_declared numbering index name (Some declared) numbered is =
    let parts = and_parts (not (is_forward declared)) (bears name declared) is in
    rw (not-true (is_forward declared) parts.0) (has_name numbering index name declared numbered parts.1)

has_type : (numbering : Numbering) (index : ℕ) (name : TypeName) (answer : Answer TypeValue)
    → is_numbered numbering name ≡ true → defines name answer ≡ true
    → list_any (is_number numbering name index) (type_numbers numbering index answer) ≡ true
has_type numbering index name (Err refusal) numbered is = absurd (false≢true is)
has_type numbering index name (Ok value) numbered is =
    has_declared numbering index name (declaration_of value) numbered is

has_item : (numbering : Numbering) (at index k : ℕ) (name : TypeName) (items : List (List ℕ)) (item : List ℕ)
    → is_numbered numbering name ≡ true → at ≡ index + k → slice_get items k ≡ Some item
    → defines name (type_of at item) ≡ true
    → list_any (is_number numbering name at) (item_numbers numbering index items) ≡ true
has_item numbering at index k name [] item numbered same there is = absurd cc
has_item numbering at index zero name (first ∷ items) item numbered same there is =
    let here : at ≡ index = omega (arith, same) in
    let one : first ≡ item = cc in
    let found : list_any (is_number numbering name at) (type_numbers numbering index (type_of index first)) ≡ true =
    rw (one, ← here) (has_type numbering at name (type_of at item) numbered is) in
    rw list_any-append (or_left _ _ found)
has_item numbering at index (suc k) name (first ∷ items) item numbered same there is =
    let found = has_item numbering at (index + 1) k name items item numbered (omega (arith, same)) there is in
    rw list_any-append (or_right _ _ found)

-- ---- the items of a table

-- an item is read where it stands, below the maximum
pub item_there : (table : Table) (index : ℕ) (item : List ℕ) → table.header.minimum_index ≤ index
    → item_of table index ≡ Ok item → (index < table.header.maximum_index)
    × (slice_get (walk table) (index - table.header.minimum_index) ≡ Some item)
unfolding item_of
item_there table index item least is =
    let above = le-ltb index table.header.minimum_index least in
    elim (cases_Bool (leb table.header.maximum_index index)) [
      | inl past ↦ let none = rw (above, past) at is in absurd cc
      | inr inside ↦ (
        leb-false table.header.maximum_index index inside,
        nth_ok table (index - table.header.minimum_index) item (rw (above, inside) at is),
      )
    ]

defined_by : (name : TypeName) (index : ℕ) (answer : Answer (List ℕ)) → defines name (answer >>= type_of index) ≡ true
    → (item : List ℕ) × (answer ≡ Ok item) × (defines name (type_of index item) ≡ true)
defined_by name index (Err refusal) is = absurd (false≢true is)
defined_by name index (Ok item) is = (item, refl, is)

pub defined_there : (table : Table) (name : TypeName) (index : ℕ) → defines name (type_at table index) ≡ true
    → (item : List ℕ) × (item_of table index ≡ Ok item) × (defines name (type_of index item) ≡ true)
unfolding type_at
defined_there table name index is = defined_by name index (item_of table index) is

-- the items of a table have four bytes at least, and indexes of 32 bits
walk_few : (table : Table) → length (walk table) ≤ room table
unfolding walk
walk_few table = items_few (room table) (body table)

walk_short : (table : Table) → 4 * length (walk table) ≤ length table.bytes
unfolding walk
walk_short table =
    let four = item_per_four_bytes (room table) (body table) in
    let whole = length-drop table.header.header_size table.bytes in
    omega (arith, four, whole)

-- the index of a definition is not far above the least one
pub defined_near : (table : Table) (name : TypeName) (index : ℕ) → table.header.minimum_index ≤ index
    → defines name (type_at table index) ≡ true → index - table.header.minimum_index ≤ most_above table
defined_near table name index least is =
    let there = defined_there table name index is in
    let within = slice_get_within (walk table) (index - table.header.minimum_index) there.0
    (item_there table index there.0 least there.1).1 in
    omega (arith, within, walk_short table, walk_few table)

-- ---- the numbers of a table

-- its numbers, sorted
pub numbered : (table : Table) (numbering : Numbering) (numbers sorted : List ℕ)
    → numbering ≡ numbering_of table numbering.has_source_names → numbering.least + numbering.most ≤ 0xffff_ffff
    → numbers ≡ all_numbers numbering table → IsPermutation numbers sorted
    → IsNonDecreasingBy (λ (number : ℕ). number) sorted
    → HasNumbers table numbering sorted
unfolding all_numbers
numbered table numbering numbers sorted of_table fits are moved order = record {
  numbered = of_table;
  fits = fits;
  sorted = order;
  complete = λ name index has above is.
      let least = table.header.minimum_index in
      let there = defined_there table name index is in
      let item = (item_there table index there.0 above there.1).1 in
      let test = is_number numbering name index in
      let found : list_any test numbers ≡ true =
      rw are (has_item numbering index least (index - least) name (walk table) there.0 has
      (omega (arith, above)) item there.2) in
      sym (list_any-IsPermutation test numbers sorted moved) ∙ found;
}

-- the index that is made of a number is the one that it tells
pub told : (table : Table) (numbering : Numbering) (numbers : List ℕ) (first number index : ℕ)
    → HasNumbers table numbering numbers → index ≡ numbering.least + (number - first)
    → index ≡ index_of_number table first number
told table numbering numbers first number index are is =
    is ∙ ap (λ (n : Numbering). n.least + (number - first)) are.numbered

-- ---- the walk over a table

-- the numbers of the items that an iterator has still to give
abbrev pub still_numbers : Numbering → WalkPosition → List ℕ
still_numbers numbering stand = item_numbers numbering stand.index (drop (steps_taken stand) (walk stand.table))

-- a new one has all of them to give
pub all_still : (numbering : Numbering) (table : Table) → all_numbers numbering table
    ≡ still_numbers numbering (record { table = table; index = table.header.minimum_index })
unfolding all_numbers
all_still numbering table =
    let none : table.header.minimum_index - table.header.minimum_index ≡ 0 = omega arith in rw none refl

-- the numbers of the item of a step come first, and then those that are left
still_more : {X : Type 0} (numbering : Numbering) (seen : X → ℕ × List ℕ) (old : WalkPosition) (x : X)
    (new : WalkPosition) → old.table.header.minimum_index ≤ old.index → IsStep seen old (Ok (Some x)) new
    → still_numbers numbering old
    ≡ type_numbers numbering (seen x).0 (type_of (seen x).0 (seen x).1) ++ still_numbers numbering new
still_more numbering seen old x new least step =
    let given = step_some seen old x new step in
    let n = steps_taken old in
    let here = get_or_from_slice_get (walk old.table) n (seen x).1 (seen x).1 given.there in
    let next : suc n ≡ old.index + 1 - old.table.header.minimum_index = omega arith in
    rw (given.moved, drop-cons (walk old.table) n (seen x).1 given.within, here, ← given.index, ← next) refl

-- Numbers were found so far, and the iterator stands in the table.
pub record AreFound (numbering : Numbering) (table : Table) (found : List ℕ) (stand : WalkPosition) : Type 0 where
  pub same : stand.table ≡ table
  pub least : stand.table.header.minimum_index ≤ stand.index
  pub so_far : all_numbers numbering table ≡ found ++ still_numbers numbering stand

pub found_more : {X : Type 0} (numbering : Numbering) (seen : X → ℕ × List ℕ) (table : Table) (found : List ℕ)
    (old : WalkPosition) (x : X) (new : WalkPosition) → AreFound numbering table found old
    → IsStep seen old (Ok (Some x)) new
    → AreFound numbering table (found ++ type_numbers numbering (seen x).0 (type_of (seen x).0 (seen x).1)) new
found_more numbering seen table found old x new are step =
    let given = step_some seen old x new step in
    let numbers = type_numbers numbering (seen x).0 (type_of (seen x).0 (seen x).1) in
    record {
      same = rw given.moved are.same;
      least = rw given.moved (omega (arith, are.least));
      so_far = are.so_far ∙ ap (λ (l : List ℕ). found ++ l) (still_more numbering seen old x new are.least step)
          ∙ sym (append_assoc found numbers (still_numbers numbering new));
    }

-- at the end all were found
pub found_all : {X : Type 0} (numbering : Numbering) (seen : X → ℕ × List ℕ) (table : Table) (found : List ℕ)
    (old new : WalkPosition) → AreFound numbering table found old → IsStep seen old (Ok None) new
    → if_none_left (all_numbers numbering table) (walk_rest table) ≡ Ok found
found_all numbering seen table found old new are step =
    let end = step_none seen old new step in
    let nothing : still_numbers numbering old ≡ [] = rw (drop_of_length-le (walk old.table) end.0) refl in
    let all : all_numbers numbering table ≡ found =
    are.so_far ∙ ap (λ (l : List ℕ). found ++ l) nothing ∙ append-nil found in
    let rest : walk_rest table ≡ [] = ap walk_rest (sym are.same) ∙ end.1 in
    rw (all, rest) refl

stopped_left : (numbers rest : List ℕ) (fault : Refusal) → rest ≢ [] → fault_of rest ≡ fault
    → if_none_left numbers rest ≡ Err fault
stopped_left numbers [] fault some is = absurd (some refl)
stopped_left numbers (byte ∷ bytes) fault some is = ap (λ (f : Refusal). err {A = List ℕ} f) is

-- a fault stops the walk before the end
pub found_stopped : {X : Type 0} (numbering : Numbering) (seen : X → ℕ × List ℕ) (table : Table) (found : List ℕ)
    (old new : WalkPosition) (e : Error) → AreFound numbering table found old → IsStep seen old (Err e) new
    → if_none_left (all_numbers numbering table) (walk_rest table) ≡ Err (refusal_of e)
found_stopped numbering seen table found old new e are step =
    let end = step_err seen old new e step in
    let some : walk_rest table ≢ [] = λ none. end.some (ap walk_rest are.same ∙ none) in
    stopped_left (all_numbers numbering table) (walk_rest table) (refusal_of e) some
    (ap (λ (t : Table). fault_of (walk_rest t)) (sym are.same) ∙ end.is)

-- ---- a walk over a whole table

refused_alike : {A B : Type 0} (x : A) (y : B) (rest : List ℕ) (fault : Refusal) → if_none_left x rest ≡ Err fault
    → if_none_left y rest ≡ Err fault
refused_alike x y [] fault is = absurd cc
refused_alike {A} {B} x y (byte ∷ bytes) fault is =
    ap (λ (f : Refusal). err {A = B} f) (err_is {A = A} (fault_of (byte ∷ bytes)) fault is)

given_alike : {A B : Type 0} (x z : A) (y : B) (rest : List ℕ) → if_none_left x rest ≡ Ok z
    → (if_none_left y rest ≡ Ok y) × (z ≡ x)
given_alike x z y [] is = (refl, sym (ok_is x z is))
given_alike x z y (byte ∷ bytes) is = absurd cc

pub whole_refused : (numbering : Numbering) (table : Table) (e : Error)
    → Answers {X = Vec ℕ Global} {Y = List ℕ} (λ numbers. numbers.items) (Err e)
    (if_none_left (all_numbers numbering table) (walk_rest table))
    → Answers {X = Table} {Y = Table} (λ table. table) (Err e) (whole_table table)
unfolding whole_table
whole_refused numbering table e (inl is) =
    inl (refused_alike (all_numbers numbering table) table (walk_rest table) (refusal_of e) is)
whole_refused numbering table e (inr memory) = inr memory

pub whole_walked : (numbering : Numbering) (table : Table) (numbers : List ℕ)
    → if_none_left (all_numbers numbering table) (walk_rest table) ≡ Ok numbers
    → (whole_table table ≡ Ok table) × (numbers ≡ all_numbers numbering table)
unfolding whole_table
whole_walked numbering table numbers is =
    given_alike (all_numbers numbering table) numbers table (walk_rest table) is

-- ---- the numbers that may be of a name

-- those from its first number on, as many as there may be
pub candidates : (table : Table) (numbering : Numbering) (first : ℕ) (numbers : List ℕ) (start count : ℕ)
    → HasNumbers table numbering numbers → start ≤ length numbers → count ≤ length (drop start numbers)
    → IsPartitionPoint (λ number. ltb number first ≡ true) (λ number. ltb number first ≡ false) numbers start
    → IsPartitionPoint (λ number. leb number (first + most_above table) ≡ true)
    (λ number. leb number (first + most_above table) ≡ false) (drop start numbers) count
    → AreCandidates table numbering first (take count (drop start numbers))
candidates table numbering first numbers start count are within few from to =
    let last = first + most_above table in
    let ours : List ℕ = take count (drop start numbers) in
    let long : length ours ≡ count = length-take-le count (drop start numbers) few in
    let all : length (drop start numbers) ≡ length numbers - start = length-drop start numbers in
    let there : (k : ℕ) (d : ℕ) → k < count → get_or ours k d ≡ get_or numbers (start + k) d =
    λ k d below. get_or-take count (drop start numbers) k d below ∙ get_or-drop start numbers k d in
    record {
      rising = λ i j d le below.
          let there_last : j < count = omega (arith, below, long) in
          let one = there i d (omega (arith, le, there_last)) in
          let other = there j d there_last in
          let order = are.sorted (start + i) (start + j) d (omega (arith, le))
          (omega (arith, there_last, all, few, within)) in
          rw (one, other) order;
      least = λ k d below.
          let here : k < count = omega (arith, below, long) in
          let high = ltb-false (get_or numbers (start + k) d) first
          (from.1 (start + k) d (omega arith) (omega (arith, here, all, few, within))) in
          rw (there k d here) high;
      most = λ k d below.
          let here : k < count = omega (arith, below, long) in
          let same = get_or-drop start numbers k d in
          let low = leb-true (get_or (drop start numbers) k d) last (to.0 k d (omega arith) here) in
          rw (there k d here, ← same) low;
      complete = λ name index has same least is.
          let test = is_number numbering name index in
          let found = Any-from_list_any test numbers (are.complete name index has least is) in
          let k = found.0 in
          let number = found.1 in
          let its : number ≡ name_number numbering name index =
          eqb-true number (name_number numbering name index) found.4 in
          let from_least : numbering.least ≡ table.header.minimum_index =
          ap (λ (n : Numbering). n.least) are.numbered in
          let near = defined_near table name index least is in
          let told : number ≡ first + (index - table.header.minimum_index) = its ∙ rw (same, from_least) refl in
          let behind : start ≤ k = elim (cases_lt k start) as (λ _. start ≤ k) [
            | inl before ↦
                let low = from.0 k number (omega arith) before in
                let lower = ltb-true (get_or numbers k number) first low in
                let at = found.3 in
                absurd (omega (arith, lower, at, told))
            | inr after ↦ after
          ] in
          let place : start + (k - start) ≡ k = omega (arith, behind) in
          let ahead : k - start < count = elim (cases_lt (k - start) count) as (λ _. k - start < count) [
            | inl before ↦ before
            | inr after ↦
                let high = to.1 (k - start) number after (omega (arith, all, found.2, behind)) in
                let higher = leb-false (get_or (drop start numbers) (k - start) number) last high in
                let at : get_or (drop start numbers) (k - start) number ≡ number =
                get_or-drop start numbers (k - start) number
                ∙ ap (λ (n : ℕ). get_or numbers n number) place ∙ found.3 in
                absurd (omega (arith, higher, at, told, near))
          ] in
          let at : get_or ours (k - start) number ≡ number = there (k - start) number ahead
          ∙ ap (λ (n : ℕ). get_or numbers n number) place ∙ found.3 in
          let tells : index_of_number table first (get_or ours (k - start) number) ≡ index =
          rw at (omega (arith, told, least)) in
          list_any_at (λ n. eqb (index_of_number table first n) index) ours (k - start) number
          (omega (arith, ahead, long))
          (eq-eqb (index_of_number table first (get_or ours (k - start) number)) index tells);
    }
