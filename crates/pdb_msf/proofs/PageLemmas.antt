-- The positions of whole pages, by the index of each byte.
use Rattle.std.proofs.Common.{◌≡◌, ℕ, ◌+◌, ◌*◌, ◌/◌, ◌%◌, ◌<◌, ◌≤◌, List, [], ◌∷◌, length, get_or, take, map, sym}
use Rattle.std.proofs.Common.{ap, ◌∙◌, arith, slice_index, length-append, ◌^◌, inl, inr, Ok, Some, None}
use Rattle.std.proofs.Common.{Bool, cond, ltb, subst}
use Rattle.std.specs.List.{flat_map, list_all, range_with_len}
use Rattle.std.proofs.Math.Nat.{mod-lt}
use Rattle.std.proofs.lemmas.Bool.{cases_Bool, cases_lt}
use Rattle.std.proofs.lemmas.Nat.{div-add-mod', div_below, mul-le}
use Rattle.std.proofs.lemmas.Grind.{div_ceil_times}
use Rattle.std.proofs.lemmas.List.{get_or-take, length-take, length-take-le, ext_get_or, length-map}
use Rattle.std.proofs.lemmas.List.FromFn.{length-range_with_len, get_or-map-range_with_len, get_or-range_with_len}
use Rattle.std.proofs.lemmas.List.FromFn.{length-map-range_with_len}
use Rattle.std.proofs.lemmas.List.Concat.{get_or-flat_map}
use Rattle.std.specs.Prelude.{IsTrue}
use Rattle.std.proofs.lemmas.Bool.Decides.{nat_tests}
use Rattle.pdb_msf.specs.Header.{is_page_size}
use Rattle.pdb_msf.specs.PageList.{page_positions}
use Rattle.pdb_msf.specs.Source.{bytes_at, bytes_or_eof}
use Rattle.pdb_msf.specs.Pages.{pages, position_of}
use Rattle.pdb_msf.specs.Directory.{absent}
use Rattle.pdb_base.proofs.lemmas.Collected.{ok_is}

-- the positions of all bytes of these pages
abbrev pub all_positions : ℕ → List ℕ → List ℕ
all_positions page_size numbers = flat_map (page_positions page_size) numbers

pub length-all_positions : (page_size : ℕ) (numbers : List ℕ)
    → length (all_positions page_size numbers) ≡ length numbers * page_size
length-all_positions page_size [] = omega arith
length-all_positions page_size (number ∷ numbers) =
    let rest = length-all_positions page_size numbers in
    length-append (page_positions page_size number) (all_positions page_size numbers)
    ∙ omega (arith, rest, length-range_with_len (number * page_size) page_size)

-- byte i lies in page i / page_size, at i % page_size
position_by_index : (page_size : ℕ) (numbers : List ℕ) (i : ℕ) → 0 < page_size → i < length numbers * page_size
    → get_or (all_positions page_size numbers) i 0 ≡ position_of page_size numbers i
position_by_index page_size numbers i positive within =
    let page : i / page_size < length numbers = div_below i page_size (length numbers) positive within in
    let byte : i % page_size < page_size = mod-lt i positive in
    let before : length (all_positions page_size (take (i / page_size) numbers)) ≡ i / page_size * page_size =
    length-all_positions page_size (take (i / page_size) numbers)
    ∙ ap (λ (n : ℕ). n * page_size) (length-take-le (i / page_size) numbers (omega arith)) in
    let at : length (all_positions page_size (take (i / page_size) numbers)) + i % page_size ≡ i =
    ap (λ (n : ℕ). n + i % page_size) before ∙ div-add-mod' i page_size in
    let in_page : i % page_size < length (page_positions page_size (get_or numbers (i / page_size) 0)) =
    omega (arith, length-range_with_len (get_or numbers (i / page_size) 0 * page_size) page_size) in
    ap (λ (n : ℕ). get_or (all_positions page_size numbers) n 0) (sym at)
    ∙ get_or-flat_map (page_positions page_size) numbers (i / page_size) (i % page_size) 0 0 page in_page
    ∙ get_or-range_with_len (get_or numbers (i / page_size) 0 * page_size) page_size (i % page_size) 0 byte

-- the first positions of pages are those of their bytes in order
pub positions_by_index : (page_size : ℕ) (numbers : List ℕ) (size : ℕ) → 0 < page_size
    → size ≤ length numbers * page_size → take size (all_positions page_size numbers)
    ≡ map (position_of page_size numbers) (range_with_len 0 size)
positions_by_index page_size numbers size positive within =
    let all = length-all_positions page_size numbers in
    let long : length (take size (all_positions page_size numbers)) ≡ size =
    length-take size (all_positions page_size numbers) ∙ omega arith in
    ext_get_or 0 _ _ (long ∙ sym (length-map-range_with_len (position_of page_size numbers) 0 size))
    (λ i lt. let inside : i < size = omega arith in
    get_or-take size (all_positions page_size numbers) i 0 inside
    ∙ position_by_index page_size numbers i positive (omega arith)
    ∙ sym (get_or-map-range_with_len (position_of page_size numbers) 0 size i i 0 inside (omega arith)))

-- so many pages do hold so many bytes
pub pages_reach : (page_size bytes : ℕ) → 0 < page_size → bytes ≤ pages page_size bytes * page_size
unfolding pages
pages_reach page_size bytes positive = (div_ceil_times bytes page_size positive).0

-- and so many pages do not have a whole page more than that
pub pages_tight : (page_size bytes : ℕ) → 0 < page_size → pages page_size bytes * page_size < bytes + page_size
unfolding pages
pages_tight page_size bytes positive = (div_ceil_times bytes page_size positive).1

-- 2^32 bytes take at most 2^24 pages, since pages have at least 256 bytes
pub pages_few : (page_size bytes : ℕ) → 256 ≤ page_size → bytes < 2 ^ 32 → pages page_size bytes ≤ 2 ^ 24
pages_few page_size bytes large small =
    let tight = pages_tight page_size bytes (omega arith) in
    elim (cases_lt (2 ^ 24) (pages page_size bytes)) [
      | inl many ↦ absurd (let product : (2 ^ 24 + 1) * page_size ≤ pages page_size bytes * page_size =
          mul-le (2 ^ 24 + 1) page_size (pages page_size bytes) page_size (omega arith) (omega arith) in omega arith)
      | inr few ↦ few
    ]

pub page_size_bounds : (size : ℕ) → IsTrue (is_page_size size) → (256 ≤ size) × (size ≤ 0x800000)
page_size_bounds size good = (grind (arith, nat_tests), grind (arith, nat_tests))

-- the pages of a stream hold what is read of it
pub stream_held : (page_size size count read : ℕ) → 256 ≤ page_size → count ≡ pages page_size size → read ≤ size
    → read ≤ count * page_size
stream_held page_size size count read large whole cut =
    let reach = pages_reach page_size size (omega arith) in
    rw whole (omega (arith, reach, cut))

-- and are few
pub stream_few : (page_size size count : ℕ) → 256 ≤ page_size → count ≡ pages page_size size → size < absent
    → count ≤ 2 ^ 40
stream_few page_size size count large whole there =
    let few = pages_few page_size size large (omega (arith, there)) in
    omega (arith, whole, few)

-- no more pages than bytes
pub pages_le : (page_size bytes : ℕ) → 0 < page_size → pages page_size bytes ≤ bytes
pages_le page_size bytes positive =
    let tight = pages_tight page_size bytes positive in
    elim (cases_lt bytes (pages page_size bytes)) [
      | inl many ↦ absurd (let product : (bytes + 1) * page_size ≤ pages page_size bytes * page_size =
          mul-le (bytes + 1) page_size (pages page_size bytes) page_size (omega arith) (omega arith) in
          let some : bytes * 1 ≤ bytes * page_size = mul-le bytes 1 bytes page_size (omega arith) (omega arith) in
          omega arith)
      | inr few ↦ few
    ]

-- what was found at so many positions has so many bytes
pub length_found : (file at bytes : List ℕ) → bytes_or_eof (bytes_at file at) ≡ Ok bytes → length bytes ≡ length at
unfolding bytes_at
length_found file at bytes e = elim (cases_Bool (list_all (λ place. ltb place (length file)) at)) [
  | inl all ↦ let shown : bytes_or_eof (Some (map (slice_index file) at)) ≡ Ok bytes =
      subst (λ (b : Bool). bytes_or_eof (cond b (Some (map (slice_index file) at)) None) ≡ Ok bytes) all e in
      sym (ap length (ok_is (map (slice_index file) at) bytes shown)) ∙ length-map at (slice_index file)
  | inr none ↦ absurd (let shown : bytes_or_eof None ≡ Ok bytes =
      subst (λ (b : Bool). bytes_or_eof (cond b (Some (map (slice_index file) at)) None) ≡ Ok bytes) none e in cc)
]
