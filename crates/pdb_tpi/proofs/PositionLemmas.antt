-- Where the items of a walk begin.
use Rattle.std.proofs.Common.{◌≡◌, ℕ, zero, suc, ◌+◌, ◌-◌, ◌≤◌, ◌<◌, List, [], ◌∷◌, length, take, drop, get_or, refl}
use Rattle.std.proofs.Common.{sym, ap, subst, ◌∙◌, arith, Ok, Err, Option, Some, None, inl, inr}
use Rattle.std.specs.List.{slice_get, sum_by}
use Rattle.std.proofs.lemmas.Bool.{le-ltb, lt-leb}
use Rattle.std.proofs.lemmas.List.{drop-drop, length-drop}
use Rattle.std.proofs.lemmas.List.Sums.{sum_by-cons, sum_by_more, sum_by-take-drop}
use Rattle.std.proofs.lemmas.Option.{get_or_from_slice_get, slice_get_within}
use Rattle.std.specs.Option.{option_map}
use Rattle.pdb_base.specs.Answer.{Answer, ◌>>=◌}
use Rattle.pdb_base.proofs.lemmas.Collected.{answer_cases, ok}
use Rattle.pdb_tpi.specs.declared.open_table.RecordPlace.{RecordPlace}
use Rattle.pdb_tpi.specs.Table.{Table}
use Rattle.pdb_tpi.specs.Walk.{first_item, behind, items, rest}
use Rattle.pdb_tpi.specs.Steps.{WalkPosition, IsStep, steps_taken, room, body, walk, walk_rest, nth_item}
use Rattle.pdb_tpi.specs.Place.{IsPlace}
use Rattle.pdb_tpi.specs.Finder.{item_of}
use Rattle.pdb_tpi.specs.OpenTable.{record_bytes, place_of_record, item_size, item_position, record_place, step_located}
use Rattle.pdb_tpi.proofs.FrontLemmas.{front_item}
use Rattle.pdb_tpi.proofs.WalkLemmas.{items_more, rest_more, items_none, rest_none, items_full, rest_full, nth_some}
use Rattle.pdb_tpi.proofs.StepLemmas.{nth_ok, step_none, step_some}

-- items from the front of bytes on, and what is left behind them, take all of the bytes
all_sized : (limit : ℕ) (bytes : List ℕ) → sum_by item_size (items limit bytes) + length (rest limit bytes)
    ≡ length bytes
all_sized zero bytes = rw (items_full bytes, rest_full bytes) (omega arith)
all_sized (suc limit) bytes = elim (answer_cases (first_item bytes)) [
  | inl (item, e) ↦ rw (items_more limit bytes item e, rest_more limit bytes item e) (omega (
    arith,
    sum_by-cons item_size item (items limit (behind item bytes)),
    all_sized limit (behind item bytes),
    length-drop (2 + length item) bytes,
    (front_item bytes item e).within,
  ))
  | inr (fault, e) ↦ rw (items_none (suc limit) bytes fault e, rest_none (suc limit) bytes fault e) (omega arith)
]

whole_sized : (table : Table) → sum_by item_size (walk table) + length (walk_rest table) ≡ length (body table)
unfolding walk walk_rest
whole_sized table = all_sized (room table) (body table)

-- an iterator stands where the item before which it stands begins
pub stands_at : (table : Table) (index position : ℕ) → IsPlace table index position
    → position ≡ item_position table (index - table.header.minimum_index)
unfolding item_position
stands_at table index position place =
    let n = index - table.header.minimum_index in
    let further : sum_by item_size (drop n (walk table)) + length (walk_rest table)
    ≡ length (drop position table.bytes) =
    ap (λ (found : List (List ℕ)). sum_by item_size found + length (walk_rest table)) place.goes_on.items
    ∙ ap (λ (left : List ℕ). sum_by item_size (items (room table - n)
    (drop position table.bytes)) + length left) place.goes_on.rest
    ∙ all_sized (room table - n) (drop position table.bytes) in
    let far = place.far in
    let within = place.within in
    omega (
      arith,
      whole_sized table,
      further,
      sum_by-take-drop item_size (walk table) n,
      length-drop position table.bytes,
      length-drop table.header.header_size table.bytes,
    )

-- the next item begins behind an item's length and its record
record_ends : (table : Table) (n : ℕ) (item : List ℕ) → nth_item table n ≡ Ok item
    → item_position table (n + 1) ≡ item_position table n + 2 + length item
unfolding item_position
record_ends table n item e =
    let there = nth_ok table n item e in
    let size : item_size (get_or (walk table) n item) ≡ item_size item =
    ap item_size (get_or_from_slice_get (walk table) n item item there) in
    omega (arith, sum_by_more item_size (walk table) n item (slice_get_within (walk table) n item there), size)

no_item_there : (all : List (List ℕ)) (item : List ℕ) (n : ℕ) → all ≡ [] → slice_get all n ≡ Some item → ⊥
no_item_there [] item n none is = cc
no_item_there (first ∷ all) item n none is = cc

-- an item begins behind those before it
item_begins_by : (limit n : ℕ) (bytes item : List ℕ) (answer : Answer (List ℕ)) → first_item bytes ≡ answer
    → ((m : ℕ) (further : List ℕ) → slice_get (items limit further) m ≡ Some item
    → first_item (drop (sum_by item_size (take m (items limit further))) further) ≡ Ok item)
    → slice_get (items (suc limit) bytes) n ≡ Some item
    → first_item (drop (sum_by item_size (take n (items (suc limit) bytes))) bytes) ≡ Ok item
item_begins_by limit n bytes item (Err fault) e further is =
    absurd (no_item_there (items (suc limit) bytes) item n (items_none (suc limit) bytes fault e) is)
item_begins_by limit zero bytes item (Ok first) e further is =
    let same : first ≡ item = cc (rw (items_more limit bytes first e) at is) in
    e ∙ ap (λ (i : List ℕ). ok i) same
item_begins_by limit (suc n) bytes item (Ok first) e further is =
    let there : slice_get (items limit (behind first bytes)) n ≡ Some item =
    rw (items_more limit bytes first e) at is in
    let rest : ℕ = sum_by item_size (take n (items limit (behind first bytes))) in
    let size : sum_by item_size (take (suc n) (items (suc limit) bytes)) ≡ item_size first + rest =
    rw (items_more limit bytes first e) (sum_by-cons item_size first (take n (items limit (behind first bytes)))) in
    let begins : first_item (drop rest (drop (item_size first) bytes))
    ≡ Ok item = further n (behind first bytes) there in
    ap (λ (s : ℕ). first_item (drop s bytes)) size ∙ ap first_item (sym (drop-drop rest (item_size first) bytes))
    ∙ begins

item_begins : (limit n : ℕ) (bytes item : List ℕ) → slice_get (items limit bytes) n ≡ Some item
    → first_item (drop (sum_by item_size (take n (items limit bytes))) bytes) ≡ Ok item
item_begins zero n bytes item is = absurd (no_item_there (items zero bytes) item n (items_full bytes) is)
item_begins (suc limit) n bytes item is =
    item_begins_by limit n bytes item (first_item bytes) refl
    (λ m further there. item_begins limit m further item there) is

-- the bytes at the place of a record are the record
pub record_stands : (table : Table) (n : ℕ) (item : List ℕ) → nth_item table n ≡ Ok item
    → record_bytes table (record_place table n item) ≡ item
unfolding item_position walk
record_stands table n item e =
    let size : ℕ = sum_by item_size (take n (items (room table) (body table))) in
    let front = front_item (drop size (body table)) item
    (item_begins (room table) n (body table) item (nth_ok table n item e)) in
    let there : drop (table.header.header_size + size + 2) table.bytes ≡ drop 2 (drop size (body table)) =
    sym (ap (drop 2) (drop-drop size table.header.header_size table.bytes)
    ∙ drop-drop 2 (table.header.header_size + size) table.bytes) in
    ap (take (length item)) there ∙ sym front.is

-- The record of item `n` of the walk stands right before a position.
pub record IsRecordBefore (table : Table) (n : ℕ) (item : List ℕ) (end : ℕ) : Type 0 where
  pub before : length item ≤ end
  pub place : record { offset = end - length item; length = length item } ≡ record_place table n item

-- it does so where an iterator is past that item
pub record_placed : (table : Table) (n index end : ℕ) (item : List ℕ) → IsPlace table index end
    → index ≡ table.header.minimum_index + n + 1 → nth_item table n ≡ Ok item → IsRecordBefore table n item end
record_placed table n index end item place is e =
    let stands : end ≡ item_position table (n + 1) =
    stands_at table index end place ∙ ap (item_position table) (omega arith) in
    let ends = record_ends table n item e in
    let at : ℕ → RecordPlace = λ offset. record { offset = offset; length = length item } in
    record { before = omega (arith, stands, ends); place = ap at (omega (arith, stands, ends)) }

-- and the place of its record is that of its index
pub record_found : (table : Table) (i place end : ℕ) (item : List ℕ) (found : RecordPlace)
    → i ≡ table.header.minimum_index + place → i < table.header.maximum_index → nth_item table place ≡ Ok item
    → IsPlace table (table.header.minimum_index + place + 1) end
    → found ≡ record { offset = end - length item; length = length item } → place_of_record table i ≡ Ok (Some found)
unfolding item_of
record_found table i place end item found is below e behind there =
    let n : i - table.header.minimum_index ≡ place = omega arith in
    let at = record_placed table place _ end item behind refl e in
    rw (le-ltb i table.header.minimum_index (omega arith), lt-leb table.header.maximum_index i below, n, e)
    (ap (λ (p : RecordPlace). ok (Some p)) (sym at.place ∙ sym there))

-- the places of the records that steps return
abbrev told : WalkPosition → Answer (Option (ℕ × List ℕ) × WalkPosition) → Answer (Option RecordPlace × WalkPosition)
told stand answer =
    answer >>= λ step. Ok (option_map (λ item. record_place stand.table (steps_taken stand) item.1) step.0, step.1)

pub step_told : {X : Type 0} (seen : X → ℕ × List ℕ) (old new : WalkPosition) (given : Option X)
    → IsStep seen old (Ok given) new
    → step_located old ≡ Ok (option_map (λ x. record_place old.table (steps_taken old) (seen x).1) given, new)
step_told seen old new None step = ap (told old) step.gives
step_told seen old new (Some x) step = ap (told old) step.gives

-- the record of the item that a step returns stands right before where the step ends
pub step_placed : {X : Type 0} (seen : X → ℕ × List ℕ) (old new : WalkPosition) (x : X) (end : ℕ)
    → old.table.header.minimum_index ≤ old.index → IsStep seen old (Ok (Some x)) new → IsPlace new.table new.index end
    → IsRecordBefore old.table (steps_taken old) (seen x).1 end
step_placed seen old new x end least step place =
    let given = step_some seen old x new step in
    let here : IsPlace old.table new.index end = subst (λ (t : Table). IsPlace t new.index end) step.stays place in
    let next : new.index ≡ old.table.header.minimum_index + steps_taken old + 1 =
    omega (arith, ap (λ (s : WalkPosition). s.index) given.moved, least) in
    record_placed old.table (steps_taken old) new.index end (seen x).1 here next
    (nth_some old.table (steps_taken old) (seen x).1 given.there)

-- a step that returns no item leaves the walk where it stands
pub step_stays : {X : Type 0} (seen : X → ℕ × List ℕ) (start old new : WalkPosition) → old ≡ start
    → IsStep seen old (Ok None) new → step_located start ≡ Ok (None, start)
step_stays seen start old new is step =
    let goes = subst (λ (s : WalkPosition). IsStep seen s (Ok None) new) is step in
    let none : Option RecordPlace = None in
    step_told seen start new None goes ∙ ap (λ (s : WalkPosition). ok (none, s)) (step_none seen start new goes).2

-- one that returns an item tells the place of its record, and the walk is past it
pub step_goes : {X : Type 0} (seen : X → ℕ × List ℕ) (start old new : WalkPosition) (x : X) (index len end : ℕ)
    (place : RecordPlace) → old ≡ start → start.table.header.minimum_index ≤ start.index
    → IsStep seen old (Ok (Some x)) new → IsPlace new.table new.index end → index ≡ new.index → len ≡ length (seen x).1
    → place ≡ record { offset = end - len; length = len }
    → step_located start ≡ Ok (Some place, record start { index = index })
step_goes seen start old new x index len end place is least step stands behind long placed =
    let goes = subst (λ (s : WalkPosition). IsStep seen s (Ok (Some x)) new) is step in
    let moved = (step_some seen start x new goes).moved in
    let at : ℕ → RecordPlace = λ n. record { offset = end - n; length = n } in
    let same = sym (placed ∙ ap at long ∙ (step_placed seen start new x end least goes stands).place) in
    let next : index ≡ start.index + 1 = behind ∙ ap (λ (s : WalkPosition). s.index) moved in
    step_told seen start new (Some x) goes
    ∙ ap (λ (p : RecordPlace). ok {A = Option RecordPlace × WalkPosition} (Some p, new)) same
    ∙ ap (λ (s : WalkPosition). ok {A = Option RecordPlace × WalkPosition} (Some place, s))
    (moved ∙ ap (λ (i : ℕ). record start { index = i }) (sym next))
