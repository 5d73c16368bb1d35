-- What a finder knows, and what a look-up answers.
use Rattle.std.proofs.Common.{◌≡◌, ℕ, ◌+◌, ◌-◌, ◌*◌, ◌/◌, ◌%◌, ◌≤◌, ◌<◌, ◌&&◌, Bool, true, false, leb, ltb, cond, List}
use Rattle.std.proofs.Common.{[], ◌∷◌, ◌++◌, length, map, take, get_or, min, max, refl, sym, ap, subst, ◌∙◌, arith, inl}
use Rattle.std.proofs.Common.{inr, Some, Ok}
use Rattle.std.proofs.lemmas.Bool.{cases_lt, le-ltb, lt-ltb, lt-leb, le-leb, and_from, cond_both}
use Rattle.std.proofs.lemmas.List.{get_or_push, get_or_append_left, length_push}
use Rattle.std.proofs.lemmas.List.Folds.{fold-map}
use Rattle.std.proofs.lemmas.List.Sums.{fold_more}
use Rattle.pdb_base.specs.Count.{after_calls}
use Rattle.pdb_base.proofs.lemmas.Count.{few_calls}
use Rattle.pdb_tpi.specs.Table.{Table, IsTable, count_in_header}
use Rattle.pdb_tpi.specs.Steps.{WalkPosition, walk, walk_rest, nth_item}
use Rattle.pdb_tpi.specs.Place.{IsPlace, ArePlaces}
use Rattle.pdb_tpi.specs.Finder.{first_of_block, block_of, has_index, known_after, known_of, item_of, find_of}
use Rattle.pdb_tpi.specs.Finder.{reads_between, reads_of, reads_from, most_blocks, last_reached, known_up_to, IsLearned}
use Rattle.pdb_tpi.specs.Finder.{place_in_walk}
use Rattle.pdb_tpi.proofs.TableLemmas.{place_first}

-- ---- the positions that are kept

pub places_none : (table : Table) (capacity : ℕ) → most_blocks table ≤ capacity → ArePlaces table [] capacity
places_none table capacity room = record {
  each = λ block few. absurd (omega arith);
  below = λ block few. absurd (omega arith);
  few = omega arith;
  reserved = room;
}

-- a table that counts no index has no block
pub no_blocks : (table : Table) → count_in_header table ≡ 0 → most_blocks table ≡ 0
unfolding most_blocks
no_blocks table none = omega arith

-- a table that has indexes has a place for its first block
pub some_blocks : (table : Table) → 0 < count_in_header table → 0 < most_blocks table
unfolding most_blocks
some_blocks table some =
    let count = count_in_header table in
    let blocks : 0 < count / 8 + min 1 (count % 8) = omega arith in
    omega arith

-- there is a place for one more block while iterators stand before its first item
pub room_for : (table : Table) (known index position : ℕ) → IsPlace table index position → index
    ≡ first_of_block table known
    → index < table.header.maximum_index → known < most_blocks table
unfolding most_blocks
room_for table known index position place is below =
    let count = count_in_header table in
    let bytes = length table.bytes - table.header.header_size in
    let far = place.far in
    let within = place.within in
    let blocks : known < count / 8 + min 1 (count % 8) = omega arith in
    let reached : 32 * known ≤ bytes = omega arith in
    let held : known < 1 + bytes / 32 = omega arith in
    omega (arith, blocks, held)

pub places_push : (table : Table) (positions : List ℕ) (capacity index position : ℕ)
    → ArePlaces table positions capacity → IsPlace table index position
    → index ≡ first_of_block table (length positions) → index < table.header.maximum_index
    → ArePlaces table (positions ++ position ∷ []) capacity
places_push table positions capacity index position places place is below =
    let more = length_push positions position in
    record {
      each = λ block few. elim (cases_lt block (length positions)) [
        | inl before ↦ rw (get_or_append_left positions (position ∷ []) 0 block before) (places.each block before)
        | inr last ↦
            let here : length positions ≡ block = omega (arith, more, few, last) in
            rw (get_or_push positions position 0 block here)
            (let P : ℕ → Type 0 = λ i. IsPlace table i position in subst P (is ∙ ap (first_of_block table) here) place)
      ];
      below = λ block few. elim (cases_lt block (length positions)) [
        | inl before ↦ places.below block before
        | inr last ↦ omega (arith, more, few, last, is, below)
      ];
      few = omega (arith, more, room_for table (length positions) index position place is below);
      reserved = places.reserved;
    }

pub places_first : (table : Table) (capacity : ℕ) → IsTable table → 0 < count_in_header table
    → most_blocks table ≤ capacity
    → ArePlaces table (table.header.header_size ∷ []) capacity
places_first table capacity sound some room =
    places_push table [] capacity table.header.minimum_index table.header.header_size (places_none table capacity room)
    (place_first table sound) (omega arith) (omega arith)

-- one more block is known where the item before its first one ends
pub block_learned : (table : Table) (positions : List ℕ) (capacity block end : ℕ) → ArePlaces table positions capacity
    → block ≡ length positions → 0 < length positions
    → IsPlace table (table.header.minimum_index + (block * 8 - 1) + 1) end
    → first_of_block table block < table.header.maximum_index
    → (length positions < capacity) × ArePlaces table (positions ++ end ∷ []) capacity
block_learned table positions capacity block end places is some place below =
    let index : ℕ = table.header.minimum_index + (block * 8 - 1) + 1 in
    let first : index ≡ first_of_block table (length positions) = omega arith in
    let last : index < table.header.maximum_index = omega arith in
    let room = room_for table (length positions) index end place first last in
    let reserved = places.reserved in
    (omega (arith, room), places_push table positions capacity index end places place first last)

-- ---- what a look-up in a known block answers

pub has_counted : (table : Table) (i : ℕ) → table.header.minimum_index ≤ i → i < table.header.maximum_index
    → has_index table i ≡ true
has_counted table i least most = and_from _ _ (le-leb table.header.minimum_index i least)
    (lt-ltb i table.header.maximum_index most)

pub find_known : (table : Table) (known i first : ℕ) → first ≡ table.header.minimum_index → first ≤ i
    → i < table.header.maximum_index → (i - first) / 8 < known → find_of table known i ≡ nth_item table (i - first)
unfolding find_of item_of
find_known table known i first e least below within =
    let place : i - first ≡ i - table.header.minimum_index = ap (λ (n : ℕ). i - n) e in
    let block : block_of table i < known = rw (← place) within in
    rw (
      has_counted table i (omega arith) below,
      lt-leb known (block_of table i) block,
      le-ltb i table.header.minimum_index (omega arith),
      lt-leb table.header.maximum_index i below,
      place,
    ) refl

-- ---- the walk within a block

-- an index is in its block, at one of eight places
pub within_block : (place : ℕ) → (8 * (place / 8) + place % 8 ≡ place) × (place % 8 < 8)
within_block place = (omega arith, omega arith)

one_at_most : (test : Bool) → cond test 1 0 ≤ 1
one_at_most true = omega arith
one_at_most false = omega arith

few_between : (table : Table) (from to : ℕ) → from ≤ to → reads_between table from to ≤ to - from + 1
unfolding reads_between
few_between table from to le = elim (cases_lt to (length (walk table))) [
  | inl within ↦ rw (lt-ltb to (length (walk table)) within) (omega arith)
  | inr stops ↦ rw (le-ltb to (length (walk table)) stops)
      (omega (arith, one_at_most (leb 2 (length (walk_rest table)))))
]

-- a look-up reads eight lengths at most
pub few_reads : (table : Table) (known i : ℕ) → reads_of table known i ≤ 8
unfolding reads_of
few_reads table known i =
    let place = i - table.header.minimum_index in
    let in_block = within_block place in
    let few = few_between table (8 * block_of table i) place (omega (arith, in_block.0)) in
    cond_both (has_index table i && ltb (block_of table i) known) _ 0 (λ n. n ≤ 8)
    (λ _. omega (arith, in_block.0, in_block.1, few)) (λ _. omega arith)

-- ---- several iterators

pub known_next : (table : Table) (known : ℕ) (shown : List WalkPosition) (i : ℕ) (d : WalkPosition) → i < length shown
    → known_of table known (map (λ (s : WalkPosition). s.index) (take (i + 1) shown))
    ≡ known_after table (known_of table known (map (λ (s : WalkPosition). s.index) (take i shown)))
    ((get_or shown i d).index)
unfolding known_of
known_next table known shown i d within =
    fold-map (known_after table) (λ (s : WalkPosition). s.index) known (take (i + 1) shown)
    ∙ fold_more (λ (k : ℕ) (s : WalkPosition). known_after table k s.index) known shown i d within
    ∙ ap (λ (k : ℕ). known_after table k ((get_or shown i d).index))
    (sym (fold-map (known_after table) (λ (s : WalkPosition). s.index) known (take i shown)))

-- ---- what is learned

-- each block that is known is one that the walk reaches
known_reached : (table : Table) (positions : List ℕ) (capacity : ℕ) → ArePlaces table positions capacity
    → length positions ≤ last_reached table + 1
known_reached table positions capacity places = elim (cases_lt 0 (length positions)) [
  | inr none ↦ omega (arith, none)
  | inl some ↦
      let reached = (places.each (length positions - 1) (omega (arith, some))).reached in
      omega (arith, reached, some)
]

-- so many blocks are known once those up to that of an index are learned, as far as the walk reaches
pub up_to_is : (table : Table) (positions : List ℕ) (capacity old i : ℕ) → ArePlaces table positions capacity
    → table.header.minimum_index ≤ i → i < table.header.maximum_index → old ≤ length positions
    → length positions ≤ max old (block_of table i + 1)
    → min (block_of table i) (last_reached table) < length positions → length positions ≡ known_up_to table old i
up_to_is table positions capacity old i places least most grown within learned =
    let reached = known_reached table positions capacity places in
    rw (has_counted table i least most) (omega (arith, grown, within, reached, learned))

-- ---- what a look-up in the whole table reads

-- behind the last block that the walk reaches
few_stopping : (table : Table) (from to : ℕ) → length (walk table) < 8 * (from + 1) → length (walk table) ≤ to
    → reads_between table (8 * from) to ≤ 8
unfolding reads_between
few_stopping table from to within stops = rw (le-ltb to (length (walk table)) stops)
    (omega (arith, within, one_at_most (leb 2 (length (walk_rest table)))))

few_learned : (table : Table) (known place : ℕ) → min (place / 8) (last_reached table) < known
    → reads_between table (8 * min (place / 8) (known - 1)) place ≤ 8
few_learned table known place learned =
    let in_block = within_block place in
    elim (cases_lt (place / 8) known) [
      | inl here ↦
          let block : min (place / 8) (known - 1) ≡ place / 8 = omega (arith, here) in
          rw block (omega (
            arith,
            in_block.0,
            in_block.1,
            few_between table (8 * (place / 8)) place (omega (arith, in_block.0)),
          ))
      | inr behind ↦
          let block : min (place / 8) (known - 1) ≡ known - 1 = omega (arith, behind) in
          rw block (few_stopping table (known - 1) place (omega (arith, learned, behind))
          (omega (arith, learned, behind)))
    ]

-- and so does the walk from a known block to a place in it
pub few_in_block : (table : Table) (place known calls now : ℕ)
    → now ≡ after_calls (reads_between table (8 * min (place / 8) (known - 1)) place) calls → place / 8 < known
    → now ≤ calls + 8
few_in_block table place known calls now counted within =
    omega (
      arith,
      counted,
      few_learned table known place (omega (arith, within)),
      few_calls (reads_between table (8 * min (place / 8) (known - 1)) place) calls,
    )

-- eight lengths at most, once nothing is left to learn for it
pub few_reads_from : (table : Table) (known i : ℕ) → IsLearned table known i → reads_from table known i ≤ 8
unfolding reads_from
few_reads_from table known i learned = cond_both (has_index table i) _ 0 (λ n. n ≤ 8)
    (λ has. few_learned table known (i - table.header.minimum_index) (learned has)) (λ _. omega arith)

-- ---- the place of an index

-- An index that the header counts is so many above the minimum.
pub record IsPlaced (table : Table) (i place : ℕ) : Type 0 where
  pub least : table.header.minimum_index ≤ i
  pub most : i < table.header.maximum_index
  pub is : i - table.header.minimum_index ≡ place

pub placed : (table : Table) (i place : ℕ) → place_in_walk table i ≡ Ok (Some place) → IsPlaced table i place
placed table i place e = elim (cases_lt i table.header.minimum_index) [
  | inl below ↦ absurd (let none = rw (lt-ltb i table.header.minimum_index below) at e in cc)
  | inr least ↦ elim (cases_lt i table.header.maximum_index) [
    | inl most ↦
        let there = rw (
          le-ltb i table.header.minimum_index least,
          lt-leb table.header.maximum_index i most,
        ) at e in
        record { least = least; most = most; is = cc }
    | inr past ↦
        let out = rw (le-ltb i table.header.minimum_index least, le-leb table.header.maximum_index i past) at e in
        absurd cc
  ]
]

-- eight lengths at most are read for it, once nothing is left to learn
pub few_placed : (table : Table) (positions held : List ℕ) (i place calls now : ℕ)
    → place_in_walk table i ≡ Ok (Some place) → held ≡ positions
    → now ≡ after_calls (reads_between table (8 * min (place / 8) (length held - 1)) place) calls
    → IsLearned table (length positions) i → now ≤ calls + 8
few_placed table positions held i place calls now found same counted learned =
    let is = placed table i place found in
    let block : min (place / 8) (last_reached table) < length positions =
    rw (← is.is) (learned (has_counted table i is.least is.most)) in
    rw (counted, same) (omega (
      arith,
      few_learned table (length positions) place block,
      few_calls (reads_between table (8 * min (place / 8) (length positions - 1)) place) calls,
    ))
