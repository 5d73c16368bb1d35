-- The positions that slices name, and the bytes that stand there.
use Rattle.std.proofs.Common.{get_or, ◌≡◌, ℕ, zero, suc, ◌+◌, ◌-◌, ◌^◌, ◌<◌, ◌≤◌, ◌==◌, Bool, true, false, ◌&&◌, ◌||◌}
use Rattle.std.proofs.Common.{ltb, leb, List, [], ◌∷◌, ◌++◌, length, take, drop, map, refl, sym, ap, ◌∙◌, arith}
use Rattle.std.proofs.Common.{slice_index, length-append, Some, None, cond, subst, inl, inr}
use Rattle.std.specs.List.{list_all, range_with_len}
use Rattle.std.proofs.lemmas.Grind.{flat_map-append, common_steps}
use Rattle.std.proofs.lemmas.Bool.{cases_lt, le-ltb, lt-ltb}
use Rattle.std.proofs.lemmas.Option.{none-some, same_Some}
use Rattle.std.proofs.lemmas.Bool.Decides.{nat_tests}
use Rattle.std.proofs.lemmas.List.Folds.{list_all-append}
use Rattle.std.proofs.lemmas.List.{append-nil, get_or-take, get_or-drop, length-take, length-drop, take_more}
use Rattle.std.proofs.lemmas.List.{ext_get_or, length-map, map-id}
use Rattle.std.proofs.lemmas.List.FromFn.{length-range_with_len, get_or-map-range_with_len, take-map-range_with_len}
use Rattle.pdb_msf.specs.declared.source.SourceSlice.{SourceSlice}
use Rattle.pdb_msf.specs.Source.{slice_positions, positions, bytes_at}
use Rattle.pdb_msf.specs.Within.{is_within, if_fits_usize}

-- ---- one slice more

-- one slice more names its positions behind those before
pub positions_push : (slices : List SourceSlice) (slice : SourceSlice)
    → positions (slices ++ slice ∷ []) ≡ positions slices ++ slice_positions slice
positions_push slices slice =
    flat_map-append slice_positions slices (slice ∷ [])
    ∙ ap (λ (more : List ℕ). positions slices ++ more) (append-nil (slice_positions slice))

pub length-positions_push : (slices : List SourceSlice) (slice : SourceSlice)
    → length (positions (slices ++ slice ∷ [])) ≡ length (positions slices) + slice.size
length-positions_push slices slice =
    ap length (positions_push slices slice) ∙ length-append (positions slices) (slice_positions slice)
    ∙ ap (λ (n : ℕ). length (positions slices) + n) (length-range_with_len slice.offset slice.size)

pub length-positions_more : (slices : List SourceSlice) (i : ℕ) (d : SourceSlice) → i < length slices
    → length (positions (take (i + 1) slices)) ≡ length (positions (take i slices)) + (get_or slices i d).size
length-positions_more slices i d within =
    ap (λ (s : List SourceSlice). length (positions s)) (take_more slices i d within)
    ∙ length-positions_push (take i slices) (get_or slices i d)

-- fewer slices name no more positions
length-positions_take : (slices : List SourceSlice) (i : ℕ)
    → length (positions (take i slices)) ≤ length (positions slices)
length-positions_take [] zero = omega arith
length-positions_take [] (suc i) = omega arith
length-positions_take (slice ∷ slices) zero = omega arith
length-positions_take (slice ∷ slices) (suc i) =
    let rest = length-positions_take slices i in
    let some = length-append (slice_positions slice) (positions (take i slices)) in
    let all = length-append (slice_positions slice) (positions slices) in
    omega (arith, rest, some, all)

-- a slice that names no place
abbrev pub nowhere : SourceSlice
nowhere = record { offset = 0; size = 0 }

-- a sum that fits
pub size_more : (slices : List SourceSlice) (i : ℕ) (d : SourceSlice) (total next : ℕ) → i < length slices
    → total ≡ length (positions (take i slices)) → next ≡ total + (get_or slices i d).size
    → next ≡ length (positions (take (i + 1) slices))
size_more slices i d total next within is sum = let more = length-positions_more slices i d within in
    omega (arith, is, sum, more)

-- and one that does not
pub size_past : (slices : List SourceSlice) (i : ℕ) (d : SourceSlice) (total : ℕ) → i < length slices
    → total ≡ length (positions (take i slices)) → 2 ^ 64 ≤ total + (get_or slices i d).size
    → if_fits_usize (length (positions slices)) ≡ None
unfolding if_fits_usize
size_past slices i d total within is past =
    let more = length-positions_more slices i d within in
    let most = length-positions_take slices (i + 1) in
    let test : ltb (length (positions slices)) (2 ^ 64) ≡ false =
    le-ltb (length (positions slices)) (2 ^ 64) (omega (arith, is, past, more, most)) in
    rw test refl

pub size_fits : (slices : List SourceSlice) (total : ℕ) → total ≡ length (positions slices) → total < 2 ^ 64
    → if_fits_usize (length (positions slices)) ≡ Some total
unfolding if_fits_usize
size_fits slices total is small =
    let test : ltb (length (positions slices)) (2 ^ 64) ≡ true =
    lt-ltb (length (positions slices)) (2 ^ 64) (omega (arith, is, small)) in
    rw test (ap (λ (n : ℕ). Some n) (sym is))

pub size_known : (total size : ℕ) → if_fits_usize total ≡ Some size → size ≡ total
unfolding if_fits_usize
size_known total size is = elim (cases_lt total (2 ^ 64)) [
  | inl fits ↦ sym (same_Some total size
      (subst (λ (b : Bool). cond b (Some total) None ≡ Some size) (lt-ltb total (2 ^ 64) fits) is))
  | inr past ↦ absurd (none-some size
      (subst (λ (b : Bool). cond b (Some total) None ≡ Some size) (le-ltb total (2 ^ 64) past) is))
]

-- ---- the bytes there

-- the bytes of a part of a file, place by place
pub part_by_places : (file : List ℕ) (offset size : ℕ) → offset + size ≤ length file
    → map (slice_index file) (range_with_len offset size) ≡ take size (drop offset file)
part_by_places file offset size within =
    ext_get_or 0 _ _ (omega (
      arith,
      length-map (range_with_len offset size) (slice_index file),
      length-range_with_len offset size,
      length-take size (drop offset file),
      length-drop offset file,
    ))
    (λ i lt. let in_range : i < size = omega (
      arith,
      length-map (range_with_len offset size) (slice_index file),
      length-range_with_len offset size,
    ) in
    get_or-map-range_with_len (slice_index file) offset size i (offset + i) 0 in_range refl
    ∙ sym (get_or-take size (drop offset file) i 0 in_range ∙ get_or-drop offset file i 0))

-- the bytes of a slice that is within a file
pub bytes_of_slice : (file : List ℕ) (slice : SourceSlice) → is_within (length file) slice ≡ true → (slice.size ≡ 0 → ⊥)
    → take (slice.offset + slice.size - slice.offset) (drop slice.offset file)
    ≡ map (slice_index file) (slice_positions slice)
bytes_of_slice file slice within some =
    let reach : slice.offset + slice.size ≤ length file = grind (arith, nat_tests) in
    ap (λ (n : ℕ). take n (drop slice.offset file)) (omega arith)
    ∙ sym (part_by_places file slice.offset slice.size reach)

-- ---- positions within a file

-- all numbers from one on are below a limit just where the last one is
range_below : (from count limit : ℕ) → list_all (λ place. ltb place limit) (range_with_len from count)
    ≡ (count == 0 || leb (from + count) limit)
range_below from zero limit = refl
range_below from (suc zero) limit = grind (arith, nat_tests)
range_below from (suc (suc more)) limit = let e = range_below (from + 1) (suc more) limit in grind (arith, nat_tests)

slice_within : (limit : ℕ) (slice : SourceSlice)
    → is_within limit slice ≡ list_all (λ place. ltb place limit) (slice_positions slice)
slice_within limit slice = let e = range_below slice.offset slice.size limit in grind (arith, nat_tests)

-- slices are within a file just where all their positions are
pub all_within_is : (limit : ℕ) (slices : List SourceSlice)
    → list_all (is_within limit) slices ≡ list_all (λ place. ltb place limit) (positions slices)
all_within_is limit [] = refl
all_within_is limit (slice ∷ slices) =
    ap (λ (b : Bool). b && list_all (is_within limit) slices) (slice_within limit slice)
    ∙ ap (λ (b : Bool). list_all (λ place. ltb place limit) (slice_positions slice) && b) (all_within_is limit slices)
    ∙ sym (list_all-append (λ place. ltb place limit) (slice_positions slice) (positions slices))

pub bytes_within : (file : List ℕ) (slices : List SourceSlice) → list_all (is_within (length file)) slices ≡ true
    → bytes_at file (positions slices) ≡ Some (map (slice_index file) (positions slices))
unfolding bytes_at
bytes_within file slices within = rw (← all_within_is (length file) slices, within) refl

pub bytes_past : (file : List ℕ) (slices : List SourceSlice) → list_all (is_within (length file)) slices ≡ false
    → bytes_at file (positions slices) ≡ None
unfolding bytes_at
bytes_past file slices past = rw (← all_within_is (length file) slices, past) refl

-- the front of a file
abbrev front_of : ℕ → List SourceSlice
front_of size = record { offset = 0; size = size } ∷ []

pub front_there : (file : List ℕ) (size : ℕ) → size ≤ length file
    → bytes_at file (positions (front_of size)) ≡ Some (take size file)
front_there file size long =
    let within : is_within (length file) (record { offset = 0; size = size }) ≡ true = grind (arith, nat_tests) in
    bytes_within file (front_of size) (rw within refl)
    ∙ ap (λ (bytes : List ℕ). Some bytes) (ap (map (slice_index file)) (append-nil (range_with_len 0 size))
    ∙ part_by_places file 0 size (omega arith))

pub front_cut : (file : List ℕ) (size : ℕ) → length file < size → bytes_at file (positions (front_of size)) ≡ None
front_cut file size short =
    let past : is_within (length file) (record { offset = 0; size = size }) ≡ false = grind (arith, nat_tests) in
    bytes_past file (front_of size) (rw past refl)

-- a part of a file
abbrev pub one_slice : ℕ → ℕ → List SourceSlice
one_slice offset size = record { offset = offset; size = size } ∷ []

pub part_there : (file : List ℕ) (offset size : ℕ) → 0 < size → offset + size ≤ length file
    → bytes_at file (positions (one_slice offset size)) ≡ Some (take size (drop offset file))
part_there file offset size some reach =
    let within : is_within (length file) (record { offset = offset; size = size }) ≡ true = grind (arith, nat_tests) in
    bytes_within file (one_slice offset size) (rw within refl)
    ∙ ap (λ (bytes : List ℕ). Some bytes) (ap (map (slice_index file)) (append-nil (range_with_len offset size))
    ∙ part_by_places file offset size reach)

pub part_cut : (file : List ℕ) (offset size : ℕ) → 0 < size → length file < offset + size
    → bytes_at file (positions (one_slice offset size)) ≡ None
part_cut file offset size some short =
    let past : is_within (length file) (record { offset = offset; size = size }) ≡ false = grind (arith, nat_tests) in
    bytes_past file (one_slice offset size) (rw past refl)

pub part_long : (offset size : ℕ) → length (positions (one_slice offset size)) ≡ size
part_long offset size =
    ap length (append-nil (range_with_len offset size)) ∙ length-range_with_len offset size

-- a single byte
pub byte_there : (file : List ℕ) (offset : ℕ) (bytes : List ℕ)
    → bytes_at file (positions (one_slice offset 1)) ≡ Some bytes → ltb offset (length file) ≡ true
byte_there file offset bytes found = elim (cases_lt offset (length file)) [
  | inl within ↦ lt-ltb offset (length file) within
  | inr past ↦ absurd (none-some bytes (sym (part_cut file offset 1 (omega arith) (omega arith)) ∙ found))
]

pub byte_missing : (file : List ℕ) (offset : ℕ) → bytes_at file (positions (one_slice offset 1)) ≡ None
    → ltb offset (length file) ≡ false
byte_missing file offset missing = elim (cases_lt offset (length file)) [
  | inl within ↦ absurd (none-some _ (sym missing ∙ part_there file offset 1 (omega arith) (omega arith)))
  | inr past ↦ le-ltb offset (length file) past
]

-- ---- fewer positions

pub take-range_with_len : (from count n : ℕ) → n ≤ count → take n (range_with_len from count) ≡ range_with_len from n
take-range_with_len from count n le =
    ap (take n) (sym (map-id (range_with_len from count))) ∙ take-map-range_with_len (λ (x : ℕ). x) from count n le
    ∙ map-id (range_with_len from n)

pub take-append-ge : (n : ℕ) (xs ys : List ℕ) → length xs ≤ n → take n (xs ++ ys) ≡ xs ++ take (n - length xs) ys
take-append-ge n [] ys le = grind (arith, common_steps)
take-append-ge zero (x ∷ xs) ys le = absurd (omega arith)
take-append-ge (suc n) (x ∷ xs) ys le = ap (λ (r : List ℕ). x ∷ r)
    (take-append-ge n xs ys (omega arith) ∙ ap (λ (k : ℕ). xs ++ take k ys) (omega arith))
