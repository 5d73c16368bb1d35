-- There is exactly one walk, and what else the definitions say.
use Rattle.std.proofs.Common.{◌≡◌, ℕ, zero, suc, ◌+◌, ◌-◌, ◌*◌, ◌%◌, ◌^◌, ◌≤◌, ◌<◌, List, [], ◌∷◌, ◌++◌, length, take}
use Rattle.std.proofs.Common.{drop, refl, sym, ap, ◌∙◌, arith, Ok, Err, inl, inr}
use Rattle.std.specs.Prelude.{IsTrue}
use Rattle.std.specs.List.{flat_map}
use Rattle.std.specs.Int.{byte_at}
use Rattle.std.proofs.Math.Seq.{drop-append_seam, take-append_seam}
use Rattle.std.proofs.lemmas.Bool.{cases_lt, lt-ltb}
use Rattle.std.proofs.lemmas.List.{take-append-drop, length-append, length-drop, length-take-le, append_assoc}
use Rattle.std.proofs.lemmas.List.{append-nil, drop-drop}
use Rattle.byteorder.specs.Endian.{little_bytes, little_number}
use Rattle.byteorder.specs.Numbers.{length-bytes_low_first, little_number-reads_back}
use Rattle.pdb_base.specs.Refusal.{Refusal, unexpected_eof, type_too_short}
use Rattle.pdb_base.proofs.lemmas.Collected.{answer_cases, ok_is_no_err}
use Rattle.pdb_tpi.specs.Table.{Table}
use Rattle.pdb_tpi.specs.Walk.{with_length, IsItem, IsWalk, first_item, behind, items, rest}
use Rattle.pdb_tpi.specs.Steps.{room, body, walk, walk_rest}
use Rattle.pdb_tpi.specs.Finder.{has_index, block_of, reads_of, reads_between}
use Rattle.pdb_tpi.specs.Laws.{AreBytes, WalksOnce, HasFault, ReadsFew}
use Rattle.pdb_tpi.proofs.FrontLemmas.{IsPrefix, front_item, item_front, short_front, cut_front, unkind_front}
use Rattle.pdb_tpi.proofs.WalkLemmas.{items_more, rest_more, items_none, rest_none, items_full, rest_full, fault_is}
use Rattle.pdb_tpi.proofs.WalkLemmas.{fault_whole}
use Rattle.pdb_tpi.proofs.FinderLemmas.{few_reads, within_block}

-- ---- an item behind its length

-- bytes that begin with a length and as many bytes begin with that item
front_of : (head item more : List ℕ) → length head ≡ 2 → little_number 2 head ≡ length item → 2 ≤ length item
    → IsPrefix (head ++ item ++ more) item
front_of head item more len word kind =
    let all : head ++ item ++ more ≡ head ++ (item ++ more) = append_assoc head item more in
    let front : take 2 (head ++ (item ++ more)) ≡ head = rw (← len) (take-append_seam head (item ++ more)) in
    let tail : drop 2 (head ++ (item ++ more)) ≡ item ++ more = rw (← len) (drop-append_seam head (item ++ more)) in
    record {
      kind = kind;
      within = omega (
        arith,
        ap (λ (l : List ℕ). length l) all,
        length-append head (item ++ more),
        length-append item more,
        len,
      );
      word = rw (all, front) word;
      is = sym (rw (all, tail) (take-append_seam item more));
    }

pub framed_front : (item more : List ℕ) → IsItem item → first_item (with_length item ++ more) ≡ Ok item
framed_front item more is =
    let head = little_bytes 2 (length item) in
    let most = is.most in
    let word : little_number 2 head ≡ length item = ap (little_number 2) (sym (append-nil head))
    ∙ little_number-reads_back 2 (length item) [] (omega arith) in
    item_front (with_length item ++ more) item (front_of head item more
    (length-bytes_low_first 0 2 (length item)) word is.least)

-- two bytes are those of the number that they say, which is a u16
two_of : (front : List ℕ) → length front ≡ 2 → AreBytes front
    → (little_bytes 2 (little_number 2 front) ≡ front) × (little_number 2 front < 2 ^ 16)
two_of [] len fits = absurd (omega (arith, len))
two_of (a ∷ []) len fits = absurd (omega (arith, len))
two_of (a ∷ b ∷ []) len fits =
    let x = fits.0 in
    let y = fits.1.0 in
    let low : byte_at 0 (a + 256 * (b + 256 * 0)) ≡ a = omega arith in
    let high : byte_at 1 (a + 256 * (b + 256 * 0)) ≡ b = omega arith in
    (rw (low, high) refl, omega arith)
two_of (a ∷ b ∷ c ∷ more) len fits = absurd (omega (arith, len))

bytes_taken : (n : ℕ) (bytes : List ℕ) → AreBytes bytes → AreBytes (take n bytes)
bytes_taken zero bytes fits = tt
bytes_taken (suc n) [] fits = tt
bytes_taken (suc n) (byte ∷ bytes) fits = (fits.0, bytes_taken n bytes fits.1)

pub bytes_dropped : (n : ℕ) (bytes : List ℕ) → AreBytes bytes → AreBytes (drop n bytes)
bytes_dropped zero bytes fits = fits
bytes_dropped (suc n) [] fits = tt
bytes_dropped (suc n) (byte ∷ bytes) fits = bytes_dropped n bytes fits.1

-- an item at the front of bytes stands there behind its length
front_framed : (bytes item : List ℕ) → AreBytes bytes → first_item bytes ≡ Ok item → IsItem item
    × (with_length item ++ behind item bytes ≡ bytes)
front_framed bytes item fits e =
    let front = front_item bytes item e in
    let kind = front.kind in
    let within = front.within in
    let two = two_of (take 2 bytes) (length-take-le 2 bytes (omega arith)) (bytes_taken 2 bytes fits) in
    let head : little_bytes 2 (length item) ≡ take 2 bytes = ap (little_bytes 2) (sym front.word) ∙ two.0 in
    let most : length item < 2 ^ 16 = rw (← front.word) two.1 in
    let tail : behind item bytes ≡ drop (length item) (drop 2 bytes) = sym (drop-drop (length item) 2 bytes) in
    let all : item ++ behind item bytes ≡ drop 2 bytes = ap (λ (i : List ℕ). i ++ behind item bytes) front.is
    ∙ rw tail (take-append-drop (length item) (drop 2 bytes)) in (
      record { least = kind; most = most },
      append_assoc (little_bytes 2 (length item)) item (behind item bytes)
          ∙ ap (λ (h : List ℕ). h ++ (item ++ behind item bytes)) head ∙ rw all (take-append-drop 2 bytes),
    )

length_framed : (item : List ℕ) → length (with_length item) ≡ 2 + length item
length_framed item = length-append (little_bytes 2 (length item)) item
    ∙ ap (λ (n : ℕ). n + length item) (length-bytes_low_first 0 2 (length item))

behind_framed : (item more : List ℕ) → behind item (with_length item ++ more) ≡ more
behind_framed item more = ap (λ (n : ℕ). drop n (with_length item ++ more)) (sym (length_framed item))
    ∙ drop-append_seam (with_length item) more

-- ---- the walk that there is

walk_stops : (limit : ℕ) (bytes : List ℕ) (fault : Refusal) → first_item bytes ≡ Err fault → IsWalk limit bytes [] bytes
walk_stops limit bytes fault e = record {
  joined = refl;
  sized = tt;
  few = omega arith;
  ends = λ less item more is same.
      ok_is_no_err item fault (sym (ap first_item same ∙ framed_front item more is) ∙ e);
}

walk_goes_on : (limit : ℕ) (bytes item left : List ℕ) (found : List (List ℕ)) → AreBytes bytes
    → first_item bytes ≡ Ok item → IsWalk limit (behind item bytes) found left
    → IsWalk (suc limit) bytes (item ∷ found) left
walk_goes_on limit bytes item left found fits e further =
    let framed_item = front_framed bytes item fits e in
    record {
      joined = append_assoc (with_length item) (flat_map with_length found) left
          ∙ ap (λ (r : List ℕ). with_length item ++ r) further.joined ∙ framed_item.1;
      sized = (framed_item.0, further.sized);
      few = let few = further.few in omega arith;
      ends = λ less. further.ends (omega (arith, less));
    }

walk_is : (limit : ℕ) (bytes : List ℕ) → AreBytes bytes → IsWalk limit bytes (items limit bytes) (rest limit bytes)
walk_is zero bytes fits = rw (items_full bytes, rest_full bytes) (record {
  joined = refl;
  sized = tt;
  few = omega arith;
  ends = λ less. absurd (omega (arith, less));
})
walk_is (suc limit) bytes fits = elim (answer_cases (first_item bytes)) [
  | inl (item, e) ↦ rw (items_more limit bytes item e, rest_more limit bytes item e)
      (walk_goes_on limit bytes item (rest limit (behind item bytes)) (items limit (behind item bytes)) fits e
      (walk_is limit (behind item bytes) (bytes_dropped (2 + length item) bytes fits)))
  | inr (fault, e) ↦ rw (items_none (suc limit) bytes fault e, rest_none (suc limit) bytes fault e)
      (walk_stops (suc limit) bytes fault e)
]

-- ---- and no other

walk_only : (limit : ℕ) (bytes : List ℕ) (found : List (List ℕ)) (left : List ℕ) → AreBytes bytes
    → IsWalk limit bytes found left → (found ≡ items limit bytes) × (left ≡ rest limit bytes)
walk_only zero bytes [] left fits walk = (sym (items_full bytes), walk.joined ∙ sym (rest_full bytes))
walk_only zero bytes (item ∷ found) left fits walk = absurd (omega (arith, walk.few))
walk_only (suc limit) bytes [] left fits walk = elim (answer_cases (first_item bytes)) [
  | inl (item, e) ↦
      let front = front_framed bytes item fits e in
      absurd (walk.ends (omega arith) item (behind item bytes) front.0 (walk.joined ∙ sym front.1))
  | inr (fault, e) ↦
      (sym (items_none (suc limit) bytes fault e), walk.joined ∙ sym (rest_none (suc limit) bytes fault e))
]
walk_only (suc limit) bytes (item ∷ found) left fits walk =
    let more = flat_map with_length found ++ left in
    let whole : with_length item ++ more ≡ bytes = sym (append_assoc (with_length item)
    (flat_map with_length found) left)
    ∙ walk.joined in
    let front : first_item bytes ≡ Ok item = ap first_item (sym whole) ∙ framed_front item more walk.sized.0 in
    let tail : behind item bytes ≡ more = ap (behind item) (sym whole) ∙ behind_framed item more in
    let few = walk.few in
    let further = walk_only limit (behind item bytes) found left (bytes_dropped (2 + length item) bytes fits) (record {
      joined = sym tail;
      sized = walk.sized.1;
      few = omega arith;
      ends = λ less. walk.ends (omega (arith, less));
    }) in (
      ap (λ (f : List (List ℕ)). item ∷ f) further.0 ∙ sym (items_more limit bytes item front),
      further.1 ∙ sym (rest_more limit bytes item front),
    )

pub walks_once : (limit : ℕ) (bytes : List ℕ) → AreBytes bytes → WalksOnce limit bytes
walks_once limit bytes fits = record {
  is = walk_is limit bytes fits;
  only = λ found left walk. walk_only limit bytes found left fits walk;
}

pub table_walk : (table : Table) → AreBytes table.bytes
    → IsWalk (room table) (body table) (walk table) (walk_rest table)
unfolding walk walk_rest
table_walk table fits = walk_is (room table) (body table) (bytes_dropped table.header.header_size table.bytes fits)

-- ---- four bytes an item

pub item_per_four_bytes : (limit : ℕ) (bytes : List ℕ)
    → 4 * length (items limit bytes) + length (rest limit bytes) ≤ length bytes
item_per_four_bytes zero bytes = rw (items_full bytes, rest_full bytes) (omega arith)
item_per_four_bytes (suc limit) bytes = elim (answer_cases (first_item bytes)) [
  | inl (item, e) ↦
      let front = front_item bytes item e in
      let behind_it = item_per_four_bytes limit (behind item bytes) in
      rw (items_more limit bytes item e, rest_more limit bytes item e)
      (omega (arith, behind_it, length-drop (2 + length item) bytes, front.kind, front.within))
  | inr (fault, e) ↦ rw (items_none (suc limit) bytes fault e, rest_none (suc limit) bytes fault e) (omega arith)
]

-- ---- faults

pub has_fault : (bytes : List ℕ) → HasFault bytes
has_fault bytes = record {
  no_length = λ short. fault_is bytes unexpected_eof (short_front bytes short);
  too_short = λ long few. fault_is bytes type_too_short (unkind_front bytes long few);
  cut = λ some cut. fault_is bytes unexpected_eof (elim (cases_lt (length bytes) 2)
      [ inl short ↦ short_front bytes short | inr long ↦ cut_front bytes some long cut ]);
  whole = λ item more is same. fault_whole bytes item (ap first_item same ∙ framed_front item more is);
}

-- ---- look-ups

found_reads : (table : Table) (known i : ℕ) → IsTrue (has_index table i) → block_of table i < known
    → i - table.header.minimum_index < length (walk table)
    → reads_of table known i ≡ (i - table.header.minimum_index) % 8 + 1
unfolding reads_of reads_between
found_reads table known i counted known_block within =
    let place = i - table.header.minimum_index in
    rw (counted, lt-ltb (block_of table i) known known_block, lt-ltb place (length (walk table)) within)
    (omega (arith, within_block place))

pub reads_few : (table : Table) (known i : ℕ) → ReadsFew table known i
reads_few table known i = record { few = few_reads table known i; found = found_reads table known i }
