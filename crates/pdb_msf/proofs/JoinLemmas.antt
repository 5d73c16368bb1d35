-- Bytes of a file that are joined at its front, slice after slice.
use Rattle.std.proofs.Common.{get_or, inl, inr, ◌≡◌, ℕ, ◌+◌, ◌-◌, ◌<◌, ◌≤◌, true, List, [], ◌∷◌, ◌++◌, length, take}
use Rattle.std.proofs.Common.{drop, map, refl, sym, ap, ◌∙◌, arith, slice_index, length-append, Some}
use Rattle.std.specs.List.{list_all}
use Rattle.std.proofs.lemmas.Bool.{cases_lt}
use Rattle.std.proofs.lemmas.Bool.Decides.{nat_tests}
use Rattle.std.proofs.lemmas.List.{drop_more, get_or-take, get_or-drop, length-take, length-drop, take_more, ext_get_or}
use Rattle.std.proofs.lemmas.List.{map-append}
use Rattle.std.proofs.Math.Seq.{take-add}
use Rattle.std.proofs.lemmas.List.FromFn.{length-range_with_len}
use Rattle.pdb_msf.specs.declared.source.SourceSlice.{SourceSlice}
use Rattle.pdb_msf.specs.Source.{slice_positions, positions, bytes_at}
use Rattle.pdb_msf.specs.Within.{is_within}
use Rattle.pdb_msf.specs.InPlace.{IsMoved, can_be_joined}
use Rattle.pdb_msf.proofs.PositionLemmas.{positions_push, part_by_places, bytes_within}

-- the bytes of the first slices are joined at the front of a file, and those behind are as they were
pub record IsJoined (old : List ℕ) (slices : List SourceSlice) (count front : ℕ) (new : List ℕ) : Type 0 where
  pub len : length new ≡ length old
  pub front_is : front ≡ length (positions (take count slices))
  pub placed : take front new ≡ map (slice_index old) (positions (take count slices))
  pub behind : (i : ℕ) → front ≤ i → slice_index new i ≡ slice_index old i

-- parts of two lists that agree place by place
part_same : (xs ys : List ℕ) (a b size : ℕ) → a + size ≤ length xs → b + size ≤ length ys
    → ((i : ℕ) → i < size → slice_index xs (a + i) ≡ slice_index ys (b + i))
    → take size (drop a xs) ≡ take size (drop b ys)
part_same xs ys a b size in_xs in_ys same =
    let long_x = length-take size (drop a xs) in
    let long_y = length-take size (drop b ys) in
    let rest_x = length-drop a xs in
    let rest_y = length-drop b ys in
    ext_get_or 0 _ _ (omega (arith, long_x, long_y, rest_x, rest_y))
    (λ i lt. let within : i < size = omega (arith, lt, long_x, rest_x) in
    get_or-take size (drop a xs) i 0 within ∙ get_or-drop a xs i 0 ∙ same i within
    ∙ sym (get_or-take size (drop b ys) i 0 within ∙ get_or-drop b ys i 0))

-- bytes that were moved, and the next ones moved after them
pub move_more : (from to size more : ℕ) (old middle new : List ℕ) → IsMoved from to size old middle
    → IsMoved (from + size) (to + size) more middle new → to + more ≤ from → IsMoved from to (size + more) old new
move_more from to size more old middle new first then apart = record {
  len = then.len ∙ first.len;
  moved = λ i lt. elim (cases_lt i size) [
    | inl before ↦ then.below (to + i) (omega arith) ∙ first.moved i before
    | inr past ↦
        let rest = i - size in
        let here : to + i ≡ to + size + rest = omega arith in
        let there : from + size + rest ≡ from + i = omega arith in
        ap (slice_index new) here ∙ then.moved rest (omega arith) ∙ ap (slice_index middle) there
        ∙ first.behind (from + i) (omega arith)
  ];
  below = λ i lt. then.below i (omega arith) ∙ first.below i lt;
  behind = λ i le. then.behind i (omega arith) ∙ first.behind i (omega arith);
}

-- what it says of the first of some slices that they can be joined
pub record Can (len front : ℕ) (slice : SourceSlice) (slices : List SourceSlice) : Type 0 where
  pub ahead : front ≤ slice.offset
  pub within : slice.offset + slice.size ≤ len
  pub rest : can_be_joined len (front + slice.size) slices ≡ true

can_first : (len front : ℕ) (slice : SourceSlice) (slices : List SourceSlice)
    → can_be_joined len front (slice ∷ slices) ≡ true → Can len front slice slices
can_first len front slice slices can = record {
  ahead = grind (arith, nat_tests);
  within = grind (arith, nat_tests);
  rest = grind (arith, nat_tests);
}

pub can_more : (len front : ℕ) (slices : List SourceSlice) (i : ℕ) (d : SourceSlice) → i < length slices
    → can_be_joined len front (drop i slices) ≡ true → Can len front (get_or slices i d) (drop (i + 1) slices)
can_more len front slices i d within can =
    can_first len front _ _ (ap (can_be_joined len front) (sym (drop_more slices i d within)) ∙ can)

-- one slice more
pub join_more : (old : List ℕ) (slices : List SourceSlice) (i front : ℕ) (middle new : List ℕ) (d : SourceSlice)
    → i < length slices → IsJoined old slices i front middle
    → IsMoved (get_or slices i d).offset front (get_or slices i d).size middle new → front ≤ (get_or slices i d).offset
    → (get_or slices i d).offset + (get_or slices i d).size ≤ length old
    → IsJoined old slices (i + 1) (front + (get_or slices i d).size) new
join_more old slices i front middle new d within before moved ahead fits =
    let slice = get_or slices i d in
    let long = moved.len ∙ before.len in
    let more : positions (take (i + 1) slices) ≡ positions (take i slices) ++ slice_positions slice =
    ap positions (take_more slices i d within) ∙ positions_push (take i slices) slice in
    let first = part_same new middle 0 0 front (omega (arith, long, ahead, fits))
    (omega (arith, before.len, ahead, fits)) (λ k lt. let here : 0 + k ≡ k = omega arith in
    rw here (moved.below k (omega (arith, lt)))) in
    let then = part_same new old front slice.offset slice.size (omega (arith, long, ahead, fits)) fits
    (λ k lt. moved.moved k lt ∙ before.behind (slice.offset + k) (omega (arith, ahead))) in
    let last = then ∙ sym (part_by_places old slice.offset slice.size fits) in
    record {
      len = long;
      front_is = ap (λ (n : ℕ). n + slice.size) before.front_is
          ∙ sym (ap length more ∙ length-append (positions (take i slices)) (slice_positions slice)
          ∙ ap (λ (n : ℕ). length (positions (take i slices)) + n) (length-range_with_len slice.offset slice.size));
      placed = take-add front slice.size new
          ∙ ap (λ (xs : List ℕ). xs ++ take slice.size (drop front new)) (first ∙ before.placed)
          ∙ ap (λ (xs : List ℕ). map (slice_index old) (positions (take i slices)) ++ xs) last
          ∙ sym (map-append (slice_index old) (positions (take i slices)) (slice_positions slice))
          ∙ ap (map (slice_index old)) (sym more);
      behind = λ k le. moved.behind k le ∙ before.behind k (omega arith);
    }

-- slices that can be joined are within the file
can_within : (len front : ℕ) (slices : List SourceSlice) → can_be_joined len front slices ≡ true
    → list_all (is_within len) slices ≡ true
can_within len front [] can = refl
can_within len front (slice ∷ slices) can =
    let first = can_first len front slice slices can in
    let rest = can_within len (front + slice.size) slices first.rest in
    let a = first.within in
    grind (arith, nat_tests)

-- and so name bytes of it
pub can_found : (file : List ℕ) (slices : List SourceSlice) → can_be_joined (length file) 0 slices ≡ true
    → bytes_at file (positions slices) ≡ Some (map (slice_index file) (positions slices))
can_found file slices can = bytes_within file slices (can_within (length file) 0 slices can)
