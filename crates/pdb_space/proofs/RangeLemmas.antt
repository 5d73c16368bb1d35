-- A translated range is the translations of its addresses.
use Rattle.std.proofs.Common.{◌≡◌, ℕ, zero, suc, ◌+◌, ◌-◌, ◌<◌, ◌≤◌, Bool, true, false, cond, ltb, leb, eqb, List, []}
use Rattle.std.proofs.Common.{◌∷◌, ◌++◌, length, min, max, refl, sym, ap, ◌∙◌, append_assoc, inl, inr, arith, Some}
use Rattle.std.proofs.Common.{None, Option, IfSome}
use Rattle.std.specs.declared.ops.Range.{Range}
use Rattle.std.specs.List.{filter, filter_map, range_with_len, cons_option, All}
use Rattle.std.proofs.lemmas.Bool.{cases_lt, le-ltb, lt-ltb, le-leb, lt-leb, cases_Bool}
use Rattle.std.proofs.lemmas.List.{append-nil}
use Rattle.std.proofs.lemmas.List.Sorted.{IsNonDecreasingBy-drop}
use Rattle.pdb_space.specs.Sum.{largest, if_fits_32_bits}
use Rattle.pdb_space.specs.Omap.{OmapValue, IsSortedBySource, move_address, shift}
use Rattle.pdb_space.specs.Conversions.{translation_by, translated_parts}
use Rattle.pdb_space.specs.Ranges.{numbers_of, end_to_end, pointwise, unless_empty, part, next_source, parts}
use Rattle.pdb_space.specs.Ranges.{parts_until, IsNotEmpty}

-- the range from one address to another
abbrev pub span : ℕ → ℕ → Range ℕ
span start end = record { start = start; end = end }

-- the address, if a range can hold it
abbrev visible : Option ℕ → List ℕ
visible address = filter (λ a. ltb a largest) (cons_option address [])

-- ---- one address more

numbers-step : (s e : ℕ) → s < e → numbers_of (span s e) ≡ s ∷ numbers_of (span (s + 1) e)
numbers-step s e some =
    let more : e - s ≡ suc (e - (s + 1)) = omega arith in
    ap (range_with_len s) more

numbers-none : (s e : ℕ) → e ≤ s → numbers_of (span s e) ≡ []
numbers-none s e none =
    let no : e - s ≡ 0 = omega arith in
    ap (range_with_len s) no

filter-cons_option : (p : ℕ → Bool) (address : Option ℕ) (rest : List ℕ)
    → filter p (cons_option address rest) ≡ filter p (cons_option address []) ++ filter p rest
filter-cons_option p None rest = refl
filter-cons_option p (Some a) rest = elim (p a) as
    (λ b. cond b (a ∷ filter p rest) (filter p rest) ≡ cond b (a ∷ []) [] ++ filter p rest) [
      | true ↦ refl
      | false ↦
          refl
    ]

pointwise-step : (move : ℕ → Option ℕ) (s e : ℕ) → s < e → pointwise move (span s e) ≡ visible (move s)
    ++ pointwise move (span (s + 1) e)
unfolding pointwise
pointwise-step move s e some =
    ap (λ (numbers : List ℕ). filter (λ a. ltb a largest) (filter_map move numbers)) (numbers-step s e some)
    ∙ filter-cons_option (λ a. ltb a largest) (move s) (filter_map move (numbers_of (span (s + 1) e)))

pointwise-none : (move : ℕ → Option ℕ) (s e : ℕ) → e ≤ s → pointwise move (span s e) ≡ []
unfolding pointwise
pointwise-none move s e none =
    ap (λ (numbers : List ℕ). filter (λ a. ltb a largest) (filter_map move numbers)) (numbers-none s e none)

-- ---- sources in order

-- without its first record a table is in order as well
pub sorted-rest : (mapping : OmapValue) (table : List OmapValue) → IsSortedBySource (mapping ∷ table)
    → IsSortedBySource table
sorted-rest mapping table sorted = IsNonDecreasingBy-drop (λ m. m.source) 1 (mapping ∷ table) sorted

-- and what is before its first record is before its second
before-second : (mapping : OmapValue) (table : List OmapValue) (a : ℕ) → IsSortedBySource (mapping ∷ table)
    → a < mapping.source → a < next_source table (a + 1)
before-second mapping [] a sorted before = omega arith
before-second mapping (next ∷ table) a sorted before = let least = sorted 0 1 mapping (omega arith) (omega arith) in
    omega (arith, least)

past-second : (mapping : OmapValue) (table : List OmapValue) (e : ℕ) → IsSortedBySource (mapping ∷ table)
    → e ≤ mapping.source → e ≤ next_source table e
past-second mapping [] e sorted past = omega arith
past-second mapping (next ∷ table) e sorted past = let least = sorted 0 1 mapping (omega arith) (omega arith) in
    omega (arith, least)

-- no record is at or below an address before the first
none-below : (table : List OmapValue) (a : ℕ) → IsSortedBySource table → a < next_source table (a + 1)
    → filter (λ m. leb m.source a) table ≡ []
none-below [] a sorted before = refl
none-below (mapping ∷ table) a sorted before =
    let above : leb mapping.source a ≡ false = lt-leb mapping.source a before in
    rw above (none-below table a (sorted-rest mapping table sorted) (before-second mapping table a sorted before))

-- ---- what a table makes of one address

-- before the first record nothing
shift-before : (table : List OmapValue) (a : ℕ) → IsSortedBySource table → a < next_source table (a + 1)
    → shift table a ≡ None
unfolding shift
shift-before table a sorted before = rw (none-below table a sorted before) refl

-- from the first record on, and before the second, where the first moves it
shift-first : (mapping : OmapValue) (table : List OmapValue) (a : ℕ) → IsSortedBySource table → mapping.source ≤ a
    → a < next_source table (a + 1) → shift (mapping ∷ table) a ≡ move_address mapping a
unfolding shift
shift-first mapping table a sorted at before =
    let below : leb mapping.source a ≡ true = le-leb mapping.source a at in
    rw (below, none-below table a sorted before) refl

-- from the second record on, what it would be without the first
shift-later : (mapping next : OmapValue) (table : List OmapValue) (a : ℕ) → mapping.source ≤ a → next.source ≤ a
    → shift (mapping ∷ next ∷ table) a ≡ shift (next ∷ table) a
unfolding shift
shift-later mapping next table a at later =
    let below : leb mapping.source a ≡ true = le-leb mapping.source a at in
    let also : leb next.source a ≡ true = le-leb next.source a later in
    rw (below, also) refl

-- ---- one part

-- the numbers of a range that may be missing
abbrev flat : Option (Range ℕ) → List ℕ
flat None = []
flat (Some range) = numbers_of range

flat-unless_empty : (s e : ℕ) → flat (unless_empty (span s e)) ≡ numbers_of (span s e)
unfolding unless_empty
flat-unless_empty s e =
    elim (cases_lt s e) [
      | inl some ↦ let test : ltb s e ≡ true = lt-ltb s e some in rw test refl
      | inr none ↦ let test : ltb s e ≡ false = le-ltb s e none in rw test (sym (numbers-none s e none))
    ]

visible-below : (a : ℕ) → a < largest → visible (if_fits_32_bits a) ≡ a ∷ []
visible-below a below =
    let fits : leb a largest ≡ true = le-leb a largest (omega arith) in
    let held : ltb a largest ≡ true = lt-ltb a largest below in
    rw (fits, held) refl

visible-above : (a : ℕ) → largest ≤ a → visible (if_fits_32_bits a) ≡ []
visible-above a above =
    elim (cases_lt largest a) [
      | inl past ↦ let fits : leb a largest ≡ false = lt-leb a largest past in rw fits refl
      | inr at ↦ let fits : leb a largest ≡ true = le-leb a largest at in let held : ltb a largest ≡ false =
          le-ltb a largest above in rw (fits, held) refl
    ]

-- of what is cut to end at the largest number, the first is there just where a range can hold it
cut-step : (a end : ℕ) → a < end → numbers_of (span a (min end largest)) ≡ visible (if_fits_32_bits a)
    ++ numbers_of (span (a + 1) (min end largest))
cut-step a end some =
    elim (cases_lt a largest) [
      | inl below ↦ rw (visible-below a below) (numbers-step a (min end largest) (omega arith))
      | inr above ↦ rw (visible-above a above) (numbers-none a (min end largest) (omega arith)
          ∙ sym (numbers-none (a + 1) (min end largest) (omega arith)))
    ]

-- the first address of a part, and the part behind it
part-step : (mapping : OmapValue) (next s e : ℕ) → mapping.source ≤ s → s < next → s < e
    → flat (part mapping next (span s e)) ≡ visible (move_address mapping s)
    ++ flat (part mapping next (span (s + 1) e))
unfolding part move_address
part-step mapping next s e at before some =
    let low : max mapping.source s ≡ s = omega arith in
    let further : max mapping.source (s + 1) ≡ s + 1 = omega arith in
    let on : mapping.target + (s + 1 - mapping.source) ≡ mapping.target + (s - mapping.source) + 1 = omega arith in
    let end = mapping.target + (min next e - mapping.source) in
    elim (cases_Bool (eqb mapping.target 0)) [
      | inl nowhere ↦ rw nowhere refl
      | inr somewhere ↦
          rw (somewhere, low, further, on)
          (flat-unless_empty (mapping.target + (s - mapping.source)) (min end largest)
          ∙ cut-step (mapping.target + (s - mapping.source)) end (omega arith)
          ∙ ap (λ (more : List ℕ). visible (if_fits_32_bits (mapping.target + (s - mapping.source))) ++ more)
          (sym (flat-unless_empty (mapping.target + (s - mapping.source) + 1) (min end largest))))
    ]

-- before the record it does not matter where the range begins
part-before : (mapping : OmapValue) (next s e : ℕ) → s < mapping.source
    → part mapping next (span s e) ≡ part mapping next (span (s + 1) e)
unfolding part
part-before mapping next s e before =
    let low : max mapping.source s ≡ mapping.source = omega arith in
    let further : max mapping.source (s + 1) ≡ mapping.source = omega arith in
    rw (low, further) refl

-- where the record's addresses and the range have none in common, there is no part
pub part-none : (mapping : OmapValue) (next s e : ℕ) → min next e ≤ max mapping.source s
    → part mapping next (span s e) ≡ None
unfolding part unless_empty
part-none mapping next s e apart =
    let start = mapping.target + (max mapping.source s - mapping.source) in
    let end = min (mapping.target + (min next e - mapping.source)) largest in
    let test : ltb start end ≡ false = le-ltb start end (omega arith) in
    elim (cases_Bool (eqb mapping.target 0)) [
      | inl nowhere ↦ rw nowhere refl
      | inr somewhere ↦ rw (somewhere, test) refl
    ]

-- ---- all parts

end_to_end-cons : (range : Option (Range ℕ)) (ranges : List (Range ℕ))
    → end_to_end (cons_option range ranges) ≡ flat range ++ end_to_end ranges
end_to_end-cons None ranges = refl
end_to_end-cons (Some range) ranges = refl

-- What the parts of a range are, by where its first address lies: before the first record, ..
step-before : (mapping : OmapValue) (table : List OmapValue) (s e : ℕ) → IsSortedBySource (mapping ∷ table)
    → s < mapping.source → s < e
    → end_to_end (parts table (span s e)) ≡ visible (shift table s) ++ end_to_end (parts table (span (s + 1) e))
    → end_to_end (parts (mapping ∷ table) (span s e)) ≡ visible (shift (mapping ∷ table) s)
    ++ end_to_end (parts (mapping ∷ table) (span (s + 1) e))
step-before mapping table s e sorted before some others =
    let same = part-before mapping (next_source table e) s e before in
    let nowhere = shift-before (mapping ∷ table) s sorted before in
    let still = shift-before table s (sorted-rest mapping table sorted) (before-second mapping table s sorted before) in
    let rest : end_to_end (parts table (span s e)) ≡ end_to_end (parts table (span (s + 1) e)) =
    rw others (rw still refl) in
    rw nowhere
    (end_to_end-cons (part mapping (next_source table e) (span s e)) (parts table (span s e))
    ∙ rw (same, rest) refl
    ∙ sym (end_to_end-cons (part mapping (next_source table e) (span (s + 1) e)) (parts table (span (s + 1) e))))

-- .. among the first record's addresses, ..
step-first : (mapping : OmapValue) (table : List OmapValue) (s e : ℕ) → IsSortedBySource (mapping ∷ table)
    → mapping.source ≤ s → s < next_source table (s + 1) → s < next_source table e → s < e
    → end_to_end (parts table (span s e)) ≡ visible (shift table s) ++ end_to_end (parts table (span (s + 1) e))
    → end_to_end (parts (mapping ∷ table) (span s e)) ≡ visible (shift (mapping ∷ table) s)
    ++ end_to_end (parts (mapping ∷ table) (span (s + 1) e))
step-first mapping table s e sorted at before within some others =
    let behind = sorted-rest mapping table sorted in
    let here = shift-first mapping table s behind at before in
    let nowhere = shift-before table s behind before in
    let rest : end_to_end (parts table (span s e)) ≡ end_to_end (parts table (span (s + 1) e)) =
    rw others (rw nowhere refl) in
    rw here
    (end_to_end-cons (part mapping (next_source table e) (span s e)) (parts table (span s e))
    ∙ rw (part-step mapping (next_source table e) s e at within some, rest)
    (append_assoc (visible (move_address mapping s)) (flat (part mapping (next_source table e) (span (s + 1) e)))
    (end_to_end (parts table (span (s + 1) e))))
    ∙ ap (λ (more : List ℕ). visible (move_address mapping s) ++ more)
    (sym (end_to_end-cons (part mapping (next_source table e) (span (s + 1) e)) (parts table (span (s + 1) e)))))

-- .. or from the second record on.
step-later : (mapping next : OmapValue) (table : List OmapValue) (s e : ℕ) → mapping.source ≤ s → next.source ≤ s
    → end_to_end (parts (next ∷ table) (span s e)) ≡ visible (shift (next ∷ table) s)
    ++ end_to_end (parts (next ∷ table) (span (s + 1) e))
    → end_to_end (parts (mapping ∷ next ∷ table) (span s e)) ≡ visible (shift (mapping ∷ next ∷ table) s)
    ++ end_to_end (parts (mapping ∷ next ∷ table) (span (s + 1) e))
step-later mapping next table s e at later others =
    let none : part mapping next.source (span s e) ≡ None = part-none mapping next.source s e (omega arith) in
    let still : part mapping next.source (span (s + 1) e) ≡ None =
    part-none mapping next.source (s + 1) e (omega arith) in
    rw (shift-later mapping next table s at later, none, still) others

-- the parts of a range are the first address and the parts of the rest
parts-step : (table : List OmapValue) (s e : ℕ) → IsSortedBySource table → s < e
    → end_to_end (parts table (span s e)) ≡ visible (shift table s) ++ end_to_end (parts table (span (s + 1) e))
unfolding shift
parts-step [] s e sorted some = refl
parts-step (mapping ∷ []) s e sorted some =
    let others = parts-step [] s e (sorted-rest mapping [] sorted) some in
    elim (cases_lt s mapping.source) [
      | inl before ↦ step-before mapping [] s e sorted before some others
      | inr at ↦ step-first mapping [] s e sorted at (omega arith) some some others
    ]
parts-step (mapping ∷ next ∷ table) s e sorted some =
    let others = parts-step (next ∷ table) s e (sorted-rest mapping (next ∷ table) sorted) some in
    elim (cases_lt s mapping.source) [
      | inl before ↦ step-before mapping (next ∷ table) s e sorted before some others
      | inr at ↦ elim (cases_lt s next.source) [
        | inl within ↦ step-first mapping (next ∷ table) s e sorted at within within some others
        | inr later ↦ step-later mapping next table s e at later others
      ]
    ]

-- of no addresses there is no part
parts-none : (table : List OmapValue) (s e : ℕ) → e ≤ s → parts table (span s e) ≡ []
parts-none [] s e none = refl
parts-none (mapping ∷ table) s e none = rw (part-none mapping (next_source table e) s e (omega arith))
    (parts-none table s e none)

by_count : (count : ℕ) (table : List OmapValue) (s e : ℕ) → IsSortedBySource table → e - s ≡ count
    → end_to_end (parts table (span s e)) ≡ pointwise (shift table) (span s e)
by_count zero table s e sorted none = rw (parts-none table s e (omega arith))
    (sym (pointwise-none (shift table) s e (omega arith)))
by_count (suc count) table s e sorted is =
    parts-step table s e sorted (omega arith)
    ∙ ap (λ (more : List ℕ). visible (shift table s) ++ more) (by_count count table (s + 1) e sorted (omega arith))
    ∙ sym (pointwise-step (shift table) s e (omega arith))

pub parts_are_pointwise : (table : List OmapValue) (asked : Range ℕ) → IsSortedBySource table
    → end_to_end (parts table asked) ≡ pointwise (shift table) asked
parts_are_pointwise table asked sorted = by_count (asked.end - asked.start) table asked.start asked.end sorted refl

-- ---- the parts as far as the end

-- from records at or past the end there is no part
parts-past : (table : List OmapValue) (s e : ℕ) → IsSortedBySource table → e ≤ next_source table e
    → parts table (span s e) ≡ []
parts-past [] s e sorted past = refl
parts-past (mapping ∷ table) s e sorted past =
    rw (part-none mapping (next_source table e) s e (omega arith))
    (parts-past table s e (sorted-rest mapping table sorted) (past-second mapping table e sorted past))

pub parts_until_sorted : (table : List OmapValue) (asked : Range ℕ) → IsSortedBySource table
    → parts_until table asked ≡ parts table asked
parts_until_sorted [] asked sorted = refl
parts_until_sorted (mapping ∷ table) asked sorted =
    elim (cases_lt mapping.source asked.end) [
      | inl before ↦
          let test : leb asked.end mapping.source ≡ false = lt-leb asked.end mapping.source before in
          rw (test, parts_until_sorted table asked (sorted-rest mapping table sorted)) refl
      | inr past ↦
          let test : leb asked.end mapping.source ≡ true = le-leb asked.end mapping.source past in
          rw test (sym (parts-past (mapping ∷ table) asked.start asked.end sorted past))
    ]

-- ---- the parts over any table

pub length-cons_option : (range : Option (Range ℕ)) (ranges : List (Range ℕ))
    → length (cons_option range ranges) ≤ suc (length ranges)
length-cons_option None ranges = omega arith
length-cons_option (Some range) ranges = omega arith

pub parts_until_few : (table : List OmapValue) (asked : Range ℕ) → length (parts_until table asked) ≤ length table
parts_until_few [] asked = omega arith
parts_until_few (mapping ∷ table) asked =
    let rest = parts_until_few table asked in
    let one = length-cons_option (part mapping (next_source table asked.end) asked) (parts_until table asked) in
    elim (leb asked.end mapping.source) as (λ b. length
    (cond b [] (cons_option (part mapping (next_source table asked.end) asked) (parts_until table asked))) ≤ suc
    (length table)) [
      | true ↦ omega arith
      | false ↦ omega (arith, rest, one)
    ]

pub part-not_empty : (mapping : OmapValue) (next : ℕ) (asked : Range ℕ) → IfSome (part mapping next asked) IsNotEmpty
unfolding part unless_empty
part-not_empty mapping next asked =
    let start = mapping.target + (max mapping.source asked.start - mapping.source) in
    let end = min (mapping.target + (min next asked.end - mapping.source)) largest in
    elim (cases_Bool (eqb mapping.target 0)) [
      | inl nowhere ↦ rw nowhere tt
      | inr somewhere ↦ elim (cases_lt start end) [
        | inl some ↦ let test : ltb start end ≡ true = lt-ltb start end some in rw (somewhere, test) some
        | inr none ↦ let test : ltb start end ≡ false = le-ltb start end none in rw (somewhere, test) tt
      ]
    ]

pub All-cons_option : (range : Option (Range ℕ)) (ranges : List (Range ℕ)) → IfSome range IsNotEmpty
    → All IsNotEmpty ranges → All IsNotEmpty (cons_option range ranges)
All-cons_option None ranges first rest k d within = rest k d within
All-cons_option (Some range) ranges first rest zero d within = first
All-cons_option (Some range) ranges first rest (suc k) d within = rest k d (omega arith)

pub parts_until_not_empty : (table : List OmapValue) (asked : Range ℕ) → All IsNotEmpty (parts_until table asked)
parts_until_not_empty [] asked = λ k d within. absurd (omega arith)
parts_until_not_empty (mapping ∷ table) asked =
    let some = All-cons_option (part mapping (next_source table asked.end) asked) (parts_until table asked)
    (part-not_empty mapping (next_source table asked.end) asked) (parts_until_not_empty table asked) in
    elim (leb asked.end mapping.source) as (λ b. All IsNotEmpty
    (cond b [] (cons_option (part mapping (next_source table asked.end) asked) (parts_until table asked)))) [
      | true ↦ λ k d within. absurd (omega arith)
      | false ↦ some
    ]

-- ---- without a table

kept-numbers : (s count : ℕ) → s + count ≤ largest
    → filter (λ a. ltb a largest) (filter_map (translation_by None) (range_with_len s count)) ≡ range_with_len s count
kept-numbers s zero fits = refl
kept-numbers s (suc count) fits =
    let held : ltb s largest ≡ true = lt-ltb s largest (omega arith) in
    rw held (ap (λ (rest : List ℕ). s ∷ rest) (kept-numbers (s + 1) count (omega arith)))

-- the addresses of a range that fits 32 bits are the range
identity_laid : (asked : Range ℕ) → asked.end ≤ largest
    → end_to_end (cons_option (unless_empty asked) []) ≡ pointwise (translation_by None) asked
unfolding pointwise
identity_laid asked fits =
    end_to_end-cons (unless_empty asked) []
    ∙ append-nil (flat (unless_empty asked))
    ∙ flat-unless_empty asked.start asked.end
    ∙ elim (cases_lt asked.start asked.end) [
      | inl some ↦ sym (kept-numbers asked.start (asked.end - asked.start) (omega arith))
      | inr none ↦ let no : asked.end - asked.start ≡ 0 = omega arith in rw no refl
    ]

identity_not_empty : (asked : Range ℕ) → All IsNotEmpty (cons_option (unless_empty asked) [])
unfolding unless_empty
identity_not_empty asked =
    elim (cases_lt asked.start asked.end) [
      | inl some ↦ let test : ltb asked.start asked.end ≡ true = lt-ltb asked.start asked.end some in
          rw test (All-cons_option (Some asked) [] some (λ k d within. absurd (omega arith)))
      | inr none ↦ let test : ltb asked.start asked.end ≡ false = le-ltb asked.start asked.end none in
          rw test (λ k d within. absurd (omega arith))
    ]

pub untouched_laid : (asked : Range ℕ) → asked.end ≤ largest
    → end_to_end (translated_parts None asked) ≡ pointwise (translation_by None) asked
unfolding translated_parts
untouched_laid asked fits = identity_laid asked fits

pub untouched_not_empty : (asked : Range ℕ) → All IsNotEmpty (translated_parts None asked)
unfolding translated_parts
untouched_not_empty asked = identity_not_empty asked
