-- Which streams stream 1 names.
use Rattle.std.proofs.Common.{◌≡◌, ℕ, ◌+◌, ◌*◌, ◌/◌, min, List, [], ◌++◌, length, map, refl, sym, ap}
use Rattle.std.proofs.Common.{subst, get_or, ◌∙◌, arith, Some, Ok}
use Rattle.std.specs.List.{range_with_len, slice_get}
use Rattle.std.proofs.lemmas.Option.{get_or_from_slice_get, slice_get-get_or, slice_get_within}
use Rattle.std.proofs.lemmas.List.FromFn.{get_or-map-range_with_len, length-map-range_with_len}
use Rattle.pdb_base.specs.Index.{no_stream}
use Rattle.pdb_base.specs.Answer.{Answer}
use Rattle.pdb_base.specs.Reading.{front_at, number_at, word_at}
use Rattle.pdb_base.specs.Spelling.{SpellsNumber, Begins}
use Rattle.pdb_base.proofs.lemmas.Collected.{ok, ok_is, bind_ok, collects_all}
use Rattle.pdb_base.proofs.lemmas.Spelling.{numbers}
use Rattle.std.proofs.lemmas.List.{append_assoc, ext_get_or, get_or-map, length-map}
use Rattle.pdb_space.specs.StringTable.{name_of}
use Rattle.pdb_space.proofs.NameLemmas.{finds_name}
use Rattle.pdb_file.specs.StreamNames.{Map, Named, behind_set, entries_at, map_of, named_at, named_in}
use Rattle.pdb_file.specs.declared.information.PDBInformation.{PDBInformation}
use Rattle.pdb_file.specs.Laws.{SpellsSet, HoldsMap, IsNamed, AreNamed}
use Rattle.pdb_file.proofs.CutLemmas.{front_found, front_only}

-- ---- a set of bits

set_found : (bytes rest : List ℕ) → behind_set bytes ≡ Ok rest → (words : List ℕ) × Begins SpellsSet bytes words rest
unfolding behind_set
set_found bytes rest e =
    let count = bind_ok (number_at 4 bytes) _ rest e in
    let words = bind_ok (front_at (4 * count.0.0) count.0.1) _ rest count.2 in
    let head = (numbers 4).found bytes count.0.0 count.0.1 count.1 in
    let part = front_found (4 * count.0.0) count.0.1 words.0 words.1 in
    subst (λ (r : List ℕ). (words : List ℕ) × Begins SpellsSet bytes words r) (ok_is words.0.1 rest words.2) (
      words.0.0,
      record {
        front = head.front ++ words.0.0;
        spelled = record { count = count.0.0; head = head.front; counted = head.spelled; size = part.len; is = refl };
        is = append_assoc head.front words.0.0 words.0.1 ∙ ap (λ (b : List ℕ). head.front ++ b) part.is ∙ head.is;
      },
    )

set_only : (bytes words rest : List ℕ) → Begins SpellsSet bytes words rest → behind_set bytes ≡ Ok rest
unfolding behind_set
set_only bytes words rest begins =
    let set = begins.spelled in
    let head : Begins (SpellsNumber 4) bytes set.count (words ++ rest) = record {
      front = set.head;
      spelled = set.counted;
      is = sym (append_assoc set.head words rest) ∙ ap (λ (f : List ℕ). f ++ rest) set.is ∙ begins.is;
    } in
    rw (
      (numbers 4).only bytes set.count (words ++ rest) head,
      front_only (4 * set.count) (words ++ rest) words rest (record { len = set.size; is = refl }),
    ) refl

-- ---- the table

pub map_found : (information : PDBInformation) (table : Map) → map_of information ≡ Ok table
    → HoldsMap information table
unfolding map_of entries_at
map_found information table e =
    let before = bind_ok (front_at information.names_offset information.stream) _ table e in
    let names = bind_ok (front_at information.names_size before.0.1) _ table before.2 in
    let whole = bind_ok (entries_at names.0.1) _ table names.2 in
    let is = ok_is (record { names = names.0.0; entries = whole.0.0; behind = whole.0.1 }) table whole.2 in
    let count = bind_ok (number_at 4 names.0.1) _ whole.0 whole.1 in
    let most = bind_ok (number_at 4 count.0.1) _ whole.0 count.2 in
    let present = bind_ok (behind_set most.0.1) _ whole.0 most.2 in
    let deleted = bind_ok (behind_set present.0) _ whole.0 present.2 in
    let bits = set_found most.0.1 present.0 present.1 in
    let other = set_found present.0 deleted.0 deleted.1 in
    subst (HoldsMap information) is (record {
      before = before.0.0;
      behind = before.0.1;
      header = front_found information.names_offset information.stream before.0 before.1;
      behind_names = names.0.1;
      names = front_found information.names_size before.0.1 names.0 names.1;
      number = count.0.0;
      behind_count = count.0.1;
      count = (numbers 4).found names.0.1 count.0.0 count.0.1 count.1;
      most = most.0.0;
      behind_capacity = most.0.1;
      capacity = (numbers 4).found count.0.1 most.0.0 most.0.1 most.1;
      bits = bits.0;
      behind_present = present.0;
      present = bits.1;
      other_bits = other.0;
      behind_deleted = deleted.0;
      deleted = other.1;
      entries = front_found (8 * count.0.0) deleted.0 whole.0 deleted.2;
    })

pub map_only : (information : PDBInformation) (table : Map) → HoldsMap information table → map_of information ≡ Ok table
unfolding map_of entries_at
map_only information table holds =
    rw (
      front_only information.names_offset information.stream holds.before holds.behind holds.header,
      front_only information.names_size holds.behind table.names holds.behind_names holds.names,
      (numbers 4).only holds.behind_names holds.number holds.behind_count holds.count,
      (numbers 4).only holds.behind_count holds.most holds.behind_capacity holds.capacity,
      set_only holds.behind_capacity holds.bits holds.behind_present holds.present,
      set_only holds.behind_present holds.other_bits holds.behind_deleted holds.deleted,
      front_only (8 * holds.number) holds.behind_deleted table.entries table.behind holds.entries,
    ) refl

-- ---- the entries

entry_found : (table : Map) (k : ℕ) (one : Named) → named_at table k ≡ Ok one → IsNamed table k one
unfolding named_at
entry_found table k one e =
    let offset = word_at (8 * k) table.entries in
    let name = bind_ok (name_of table.names offset) _ one e in
    let is = ok_is (record { name = name.0; stream = min (word_at (8 * k + 4) table.entries) no_stream }) one name.2 in
    subst (IsNamed table k) is (record { name = (finds_name table.names offset).found name.0 name.1; stream = refl })

entry_only : (table : Map) (k : ℕ) (one : Named) → IsNamed table k one → named_at table k ≡ Ok one
unfolding named_at
entry_only table k one is =
    rw ((finds_name table.names (word_at (8 * k) table.entries)).only one.name is.name)
    (ap (λ (s : ℕ). ok (record { name = one.name; stream = s })) (sym is.stream))

-- answers for each number below a count are values just where each is
each_found : (f : ℕ → Answer Named) (count : ℕ) (xs : List Named) → map f (range_with_len 0 count) ≡ map ok xs
    → (length xs ≡ count) × ((k : ℕ) (x : Named) → slice_get xs k ≡ Some x → f k ≡ Ok x)
each_found f count xs e =
    let len : length xs ≡ count = omega (arith, ap length e, length-map xs ok, length-map-range_with_len f 0 count) in (
      len,
      λ k x is.
          let within = slice_get_within xs k x is in
          sym (get_or-map-range_with_len f 0 count k k (ok x) (omega (arith, within)) (omega arith))
          ∙ ap (λ (all : List (Answer Named)). get_or all k (ok x)) e ∙ get_or-map ok xs k x (ok x) within
          ∙ ap (λ (y : Named). ok y) (get_or_from_slice_get xs k x x is),
    )

each_only : (f : ℕ → Answer Named) (count : ℕ) (xs : List Named) → length xs ≡ count
    → ((k : ℕ) (x : Named) → slice_get xs k ≡ Some x → f k ≡ Ok x) → map f (range_with_len 0 count) ≡ map ok xs
each_only f count xs len each =
    let nobody : Named = record { name = []; stream = 0 } in
    let many = length-map-range_with_len f 0 count in
    ext_get_or (ok nobody) (map f (range_with_len 0 count)) (map ok xs) (omega (arith, many, length-map xs ok))
    (λ k within.
    get_or-map-range_with_len f 0 count k k (ok nobody) (omega (arith, many, within)) (omega arith)
    ∙ each k (get_or xs k nobody) (slice_get-get_or xs k nobody (omega (arith, many, within)))
    ∙ sym (get_or-map ok xs k nobody (ok nobody) (omega (arith, many, within))))

pub all_found : (table : Map) (named : List Named) → named_in table ≡ Ok named → AreNamed table named
unfolding named_in
all_found table named e =
    let each = each_found (named_at table) (length table.entries / 8) named
    ((collects_all (map (named_at table) (range_with_len 0 (length table.entries / 8)))).0 named e) in
    record { count = each.0; each = λ k one is. entry_found table k one (each.1 k one is) }

pub all_only : (table : Map) (named : List Named) → AreNamed table named → named_in table ≡ Ok named
unfolding named_in
all_only table named are =
    (collects_all (map (named_at table) (range_with_len 0 (length table.entries / 8)))).1 named
    (each_only (named_at table) (length table.entries / 8) named are.count
    (λ k one is. entry_only table k one (are.each k one is)))
