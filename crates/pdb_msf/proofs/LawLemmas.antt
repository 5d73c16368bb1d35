-- What the definitions say in other words.
use Rattle.std.proofs.Common.{◌≡◌, ℕ, zero, suc, ◌+◌, ◌*◌, ◌<◌, ◌≤◌, inl, inr, Bool, true, false, ltb, leb, cond}
use Rattle.std.proofs.Common.{◌&&◌, min, List, [], ◌∷◌, ◌++◌, length, get_or, take, drop, map, refl, sym, ap, ◌∙◌}
use Rattle.std.proofs.Common.{arith, subst, slice_index, Option, Some, None, Ok, Err}
use Rattle.std.proofs.lemmas.Bool.{cases_Bool, cases_lt, le-ltb, lt-ltb}
use Rattle.std.proofs.lemmas.Bool.Decides.{nat_tests}
use Rattle.std.proofs.lemmas.Nat.{mul-le}
use Rattle.std.proofs.lemmas.List.{ext_get_or, get_or-map, get_or-take, length-map, length-take}
use Rattle.std.proofs.lemmas.List.Folds.{list_all_at}
use Rattle.std.proofs.lemmas.List.FromFn.{get_or-map-range_with_len, length-map-range_with_len}
use Rattle.std.proofs.lemmas.Option.{none-some, same_Some, slice_get-get_or, slice_get_within, get_or_from_slice_get}
use Rattle.std.specs.List.{list_all, range_with_len, slice_get}
use Rattle.pdb_base.specs.Refusal.{Refusal, page_reference_out_of_range}
use Rattle.pdb_base.specs.Answer.{Answer, values_of_all}
use Rattle.pdb_base.proofs.lemmas.Reading.{front_whole, number_there}
use Rattle.pdb_base.proofs.lemmas.Collected.{ok, err, ok_is, err_is, ok_is_no_err, bind_ok, collects_all}
use Rattle.pdb_base.proofs.lemmas.Collected.{answer_cases, collected_more, collected_stops, option_cases}
use Rattle.pdb_msf.specs.declared.header.Geometry.{Geometry}
use Rattle.pdb_msf.specs.Source.{bytes_at, bytes_or_eof}
use Rattle.pdb_msf.specs.Pages.{pages, position_of, scatter, words, present, valid_page, page_number, page_numbers}
use Rattle.pdb_msf.specs.Header.{Head, fields_of_header}
use Rattle.pdb_msf.specs.Directory.{PagesOfStream, directory_of, stream_entry_of, stream_place_in}
use Rattle.pdb_msf.specs.File.{stream_of}
use Rattle.pdb_msf.specs.Laws.{IsLeast, Scatters, HasHeaderAtOffsets, AreGood, FirstFault, CutsOnly}
use Rattle.pdb_msf.proofs.PageLemmas.{pages_reach, pages_tight}
use Rattle.pdb_msf.proofs.WordLemmas.{word_there}

-- ---- pages

pub is_least : (page_size bytes : ℕ) → 0 < page_size → IsLeast page_size bytes (pages page_size bytes)
is_least page_size bytes positive = record {
  reaches = pages_reach page_size bytes positive;
  least = λ other reached.
      let tight = pages_tight page_size bytes positive in
      elim (cases_lt other (pages page_size bytes)) [
        | inl more ↦ absurd (let product : (other + 1) * page_size ≤ pages page_size bytes * page_size =
            mul-le (other + 1) page_size (pages page_size bytes) page_size (omega arith) (omega arith) in
            let one : (other + 1) * page_size ≡ other * page_size + page_size = omega arith in omega arith)
        | inr least ↦ least
      ];
}

-- ---- what is scattered

-- one place that is past the end
place_past : (limit : ℕ) (at : List ℕ) → list_all (λ place. ltb place limit) at ≡ false → (i : ℕ) × (i < length at)
    × (limit ≤ get_or at i 0)
place_past limit [] e = absurd cc
place_past limit (place ∷ at) e = elim (cases_lt place limit) [
  | inl within ↦ let test : ltb place limit ≡ true = lt-ltb place limit within in
      let rest = place_past limit at (subst (λ (b : Bool). (b && list_all (λ p. ltb p limit) at) ≡ false) test e) in
      (suc rest.0, omega (arith, rest.1), rest.2)
  | inr past ↦ (0, omega arith, past)
]

place_within : (limit : ℕ) (at : List ℕ) (i : ℕ) → list_all (λ place. ltb place limit) at ≡ true → i < length at
    → get_or at i 0 < limit
place_within limit at i all within = elim (cases_lt (get_or at i 0) limit) [
  | inl lt ↦ lt
  | inr past ↦ absurd (let none : list_all (λ place. ltb place limit) at ≡ false =
      list_all_at (λ place. ltb place limit) at i 0 within (le-ltb (get_or at i 0) limit past) in cc)
]

found_by_index : (file : List ℕ) (f : ℕ → ℕ) (size : ℕ) (bytes : List ℕ)
    → bytes_at file (map f (range_with_len 0 size)) ≡ Some bytes
    → (length bytes ≡ size) × ((i : ℕ) → i < size → slice_get file (f i) ≡ Some (slice_index bytes i))
unfolding bytes_at
found_by_index file f size bytes e = elim
    (cases_Bool (list_all (λ place. ltb place (length file)) (map f (range_with_len 0 size)))) [
      | inr none ↦ absurd (none-some bytes
          (subst (λ (b : Bool). cond b (Some (map (slice_index file) (map f (range_with_len 0 size)))) None
          ≡ Some bytes) none e))
      | inl all ↦
          let is : map (slice_index file) (map f (range_with_len 0 size)) ≡ bytes =
          same_Some (map (slice_index file) (map f (range_with_len 0 size))) bytes
          (subst (λ (b : Bool). cond b (Some (map (slice_index file) (map f (range_with_len 0 size)))) None
          ≡ Some bytes) all e) in
          let long : length (map f (range_with_len 0 size)) ≡ size = length-map-range_with_len f 0 size in (
            sym (ap length is) ∙ length-map (map f (range_with_len 0 size)) (slice_index file) ∙ long,
            λ i lt.
                let inside : i < length (map f (range_with_len 0 size)) = omega (arith, long) in
                let at : get_or (map f (range_with_len 0 size)) i 0 ≡ f i =
                get_or-map-range_with_len f 0 size i i 0 lt (omega arith) in
                let within : get_or (map f (range_with_len 0 size)) i 0 < length file =
                place_within (length file) (map f (range_with_len 0 size)) i all inside in
                slice_get-get_or file (f i) 0 (omega (arith, at, within))
                ∙ ap (λ (x : ℕ). Some x) (sym (sym (ap (λ (r : List ℕ). get_or r i 0) is)
                ∙ get_or-map (slice_index file) (map f (range_with_len 0 size)) i 0 0 inside
                ∙ ap (slice_index file) at)),
          )
    ]

missing_by_index : (file : List ℕ) (f : ℕ → ℕ) (size : ℕ) → bytes_at file (map f (range_with_len 0 size)) ≡ None
    → (i : ℕ) × (i < size) × (length file ≤ f i)
unfolding bytes_at
missing_by_index file f size e = elim (cases_Bool
    (list_all (λ place. ltb place (length file)) (map f (range_with_len 0 size)))) [
      | inl all ↦ absurd (none-some (map (slice_index file) (map f (range_with_len 0 size)))
          (sym (subst (λ (b : Bool). cond b (Some (map (slice_index file) (map f (range_with_len 0 size)))) None
          ≡ None) all e)))
      | inr none ↦
          let past = place_past (length file) (map f (range_with_len 0 size)) none in
          let lt : past.0 < size = omega (arith, past.1, length-map-range_with_len f 0 size) in
          let at : get_or (map f (range_with_len 0 size)) past.0 0 ≡ f past.0 =
          get_or-map-range_with_len f 0 size past.0 past.0 0 lt (omega arith) in
          (past.0, lt, omega (arith, at, past.2))
    ]

-- bytes that stand so are found
only_by_index : (file : List ℕ) (f : ℕ → ℕ) (size : ℕ) (bytes : List ℕ) → length bytes ≡ size
    → ((i : ℕ) → i < size → slice_get file (f i) ≡ Some (slice_index bytes i))
    → bytes_at file (map f (range_with_len 0 size)) ≡ Some bytes
only_by_index file f size bytes len each = elim (option_cases (bytes_at file (map f (range_with_len 0 size)))) [
  | inl none ↦ absurd (let past = missing_by_index file f size none in
      let within : f past.0 < length file = slice_get_within file (f past.0) (slice_index bytes past.0)
      (each past.0 past.1) in omega (arith, past.2, within))
  | inr there ↦ let are = found_by_index file f size there.0 there.1 in
      there.1 ∙ ap (λ (r : List ℕ). Some r) (ext_get_or 0 there.0 bytes (are.0 ∙ sym len)
      (λ i lt. let inside : i < size = omega (arith, are.0, lt) in
      same_Some (slice_index there.0 i) (slice_index bytes i) (sym (are.1 i inside) ∙ each i inside)))
]

pub scatters : (file : List ℕ) (page_size : ℕ) (numbers : List ℕ) (size : ℕ) → Scatters file page_size numbers size
unfolding scatter
scatters file page_size numbers size = record {
  found = λ bytes e. let are = found_by_index file (position_of page_size numbers) size bytes e in
      record { len = are.0; each = are.1 };
  only = λ bytes are. only_by_index file (position_of page_size numbers) size bytes are.len are.each;
  missing = missing_by_index file (position_of page_size numbers) size;
}

-- ---- the header

pub stand_at_offsets : (view : List ℕ) → HasHeaderAtOffsets view
unfolding fields_of_header
stand_at_offsets view long =
    rw (
      front_whole 32 view (omega arith),
      number_there 4 32 36 view refl (omega arith),
      number_there 4 36 40 view refl (omega arith),
      number_there 4 40 44 view refl (omega arith),
      number_there 4 44 48 view refl (omega arith),
      number_there 4 48 52 view refl (omega arith),
    ) refl

-- ---- page numbers

judged_good : (pages_used word number : ℕ) → valid_page pages_used word ≡ Ok number → (word ≡ number) × (0 < word)
    × (word ≤ pages_used)
judged_good pages_used word number e = elim (cases_Bool (ltb 0 word && leb word pages_used)) [
  | inr bad ↦ absurd (ok_is_no_err number (page_reference_out_of_range word)
      (sym (subst (λ (b : Bool). cond b (ok word) (err (page_reference_out_of_range word)) ≡ ok number) bad e)))
  | inl good ↦ (
    ok_is word number (subst (λ (b : Bool). cond b (ok word) (err (page_reference_out_of_range word))
        ≡ ok number) good e),
    grind (arith, nat_tests),
    grind (arith, nat_tests),
  )
]

good_number : (pages_used : ℕ) (words : List ℕ) (i number : ℕ) → page_number pages_used words i ≡ Ok number
    → (slice_get words i ≡ Some number) × (0 < number) × (number ≤ pages_used)
good_number pages_used words i number e =
    let there = bind_ok (present (slice_get words i)) (valid_page pages_used) number e in
    let good = judged_good pages_used there.0 number there.2 in (
      word_there (slice_get words i) there.0 there.1
          ∙ ap (λ (n : ℕ). Some n) good.0,
      omega (arith, good.0, good.1),
      omega (arith, good.0, good.2),
    )

pub are_good : (pages_used count : ℕ) (words numbers : List ℕ) → page_numbers pages_used count words ≡ Ok numbers
    → AreGood pages_used count words numbers
unfolding page_numbers
are_good pages_used count words numbers e =
    let are = (collects_all (map (page_number pages_used words) (range_with_len 0 count))).0 numbers e in
    let long : length numbers ≡ count = sym (length-map numbers (λ n. ok n)) ∙ sym (ap length are)
    ∙ length-map-range_with_len (page_number pages_used words) 0 count in
    record {
      len = long;
      each = λ i number is.
          let within : i < length numbers = slice_get_within numbers i number is in
          let here : page_number pages_used words i ≡ Ok number =
          sym (get_or-map-range_with_len (page_number pages_used words) 0 count i i (Ok 0) (omega (arith, long, within))
          (omega arith))
          ∙ ap (λ (r : List (Answer ℕ)). get_or r i (Ok 0)) are
          ∙ get_or-map (λ n. ok n) numbers i 0 (Ok 0) within
          ∙ ap (λ (n : ℕ). ok n) (get_or_from_slice_get numbers i number 0 is) in
          good_number pages_used words i number here;
    }

first_in : {A : Type 0} (f : ℕ → Answer A) (count : ℕ) (e : Refusal)
    → values_of_all (map f (range_with_len 0 count)) ≡ Err e
    → (i : ℕ) × (i < count) × (xs : List A) × (values_of_all (map f (range_with_len 0 i)) ≡ Ok xs) × (f i ≡ Err e)
first_in f zero e h = absurd cc
first_in {A} f (suc count) e h = elim (answer_cases (values_of_all (map f (range_with_len 0 count)))) [
  | inr refused ↦
      let before = first_in f count refused.0 refused.1 in
      let all = collected_stops f before.0 (suc count) before.2 refused.0 (omega (arith, before.1)) before.3 before.4
      in (
        before.0,
        omega (arith, before.1),
        before.2,
        before.3,
        before.4
            ∙ ap (λ (d : Refusal). err d) (err_is {A = List A} refused.0 e (sym all ∙ h)),
      )
  | inl there ↦ elim (answer_cases (f count)) [
    | inr refused ↦
        let all = collected_stops f count (suc count) there.0 refused.0 (omega arith) there.1 refused.1 in (
          count,
          omega arith,
          there.0,
          there.1,
          refused.1
              ∙ ap (λ (d : Refusal). err d) (err_is {A = List A} refused.0 e (sym all ∙ h)),
        )
    | inl here ↦ absurd (
        let next : count + 1 ≡ suc count = omega arith in
        let all = collected_more f count there.0 here.0 there.1 here.1 in
        ok_is_no_err (there.0 ++ here.0 ∷ []) e (sym all
        ∙ ap (λ (n : ℕ). values_of_all (map f (range_with_len 0 n))) next
        ∙ h))
  ]
]

pub first_fault : (pages_used count : ℕ) (words : List ℕ) (fault : Refusal)
    → page_numbers pages_used count words ≡ Err fault → FirstFault pages_used count words fault
unfolding page_numbers
first_fault pages_used count words fault e =
    let first = first_in (page_number pages_used words) count fault e in
    record { place = first.0; within = first.1; good = first.2; before = first.3; here = first.4 }

-- ---- streams

pub found_there : (o : Option (List ℕ)) (bytes : List ℕ) → bytes_or_eof o ≡ Ok bytes → o ≡ Some bytes
found_there None bytes e = absurd cc
found_there (Some there) bytes e = ap (λ (r : List ℕ). Some r) (ok_is there bytes e)

-- the front of what is scattered is scattered
cut_is : (file : List ℕ) (page_size : ℕ) (numbers : List ℕ) (size limit : ℕ) (bytes : List ℕ)
    → scatter file page_size numbers size ≡ Some bytes
    → scatter file page_size numbers (min size limit) ≡ Some (take limit bytes)
cut_is file page_size numbers size limit bytes e =
    let are = (scatters file page_size numbers size).found bytes e in
    (scatters file page_size numbers (min size limit)).only (take limit bytes) (record {
      len = length-take limit bytes ∙ grind (arith, nat_tests, are.len);
      each = λ i lt. are.each i (omega arith) ∙ ap (λ (x : ℕ). Some x)
          (sym (get_or-take limit bytes i 0 (omega arith)));
    })

-- under a limit an entry differs only in how many bytes are requested
limited_entry : (g : Geometry) (n limit : ℕ) (d : List ℕ) (entry : PagesOfStream) → stream_entry_of g n None d
    ≡ Ok entry
    → stream_entry_of g n (Some limit) d ≡ Ok (record { size = min entry.size limit; pages = entry.pages })
unfolding stream_entry_of
limited_entry g n limit d entry e =
    let place = bind_ok (stream_place_in g.page_size n d) _ entry e in
    let numbers = bind_ok (page_numbers g.pages_used (pages g.page_size place.0.size) (words (drop place.0.start d))) _
    entry place.2 in
    let meant : PagesOfStream = record { size = place.0.size; pages = numbers.0 } in
    let same : meant ≡ entry = ok_is meant entry numbers.2 in
    rw (place.1, numbers.1) (ap (λ (other : PagesOfStream). Ok
    (let cut : PagesOfStream = record { size = min other.size limit; pages = other.pages } in cut)) same)

pub cuts_only : (file : List ℕ) (head : Head) (n limit : ℕ) → CutsOnly file head n limit
unfolding stream_of
cuts_only file head n limit bytes e =
    let directory = bind_ok (directory_of file head) _ bytes e in
    let entry = bind_ok (stream_entry_of head.geometry n None directory.0) _ bytes directory.2 in
    let whole = found_there (scatter file head.geometry.page_size entry.0.pages entry.0.size) bytes entry.2 in
    rw (
      directory.1,
      limited_entry head.geometry n limit directory.0 entry.0 entry.1,
      cut_is file head.geometry.page_size entry.0.pages entry.0.size limit bytes whole,
    ) refl
