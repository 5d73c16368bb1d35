-- The first definition of a name.
use Rattle.std.proofs.Common.{◌≡◌, inl, inr, ℕ, ◌+◌, ◌-◌, ◌<◌, ◌≤◌, List, [], ◌∷◌, ◌++◌, length, get_or, refl}
use Rattle.std.proofs.Common.{map, sym, ap, ◌∙◌, arith, Bool, true, false, cond, eqb, Option, Some, None}
use Rattle.std.specs.List.{filter, find, list_any, range_with_len, slice_get}
use Rattle.std.specs.List.Sorted.{IsNonDecreasingBy}
use Rattle.std.specs.Option.{option_map}
use Rattle.std.proofs.lemmas.Bool.{cases_Bool, cases_lt, both_ways, false_from_ne_true, eqb-true}
use Rattle.std.proofs.lemmas.List.{get_or_default}
use Rattle.std.proofs.lemmas.List.Folds.{Any-from_list_any}
use Rattle.std.proofs.lemmas.Option.{slice_get-map}
use Rattle.pdb_base.specs.declared.index.TypeIndex.{TypeIndex}
use Rattle.pdb_tpi.specs.Table.{Table, count_in_header}
use Rattle.pdb_types.specs.declared.numbering.Numbering.{Numbering}
use Rattle.pdb_types.specs.Declaration.{TypeName}
use Rattle.pdb_types.specs.Definition.{all_definitions, defines, first_definition}
use Rattle.pdb_types.specs.DefinitionLaws.{IsFirstDefinition}
use Rattle.pdb_types.specs.Numbering.{AreCandidates, first_number, index_of_number, is_numbered, most_above}
use Rattle.pdb_types.specs.TypeAt.{type_at}
use Rattle.pdb_types.proofs.NumberLemmas.{defined_near, defined_there, item_there}
use Rattle.pdb_types.proofs.SearchLemmas.{filter_end, filter_next, find_first, find_none, find_found, find_missed}

-- whether an index is a definition of a name
abbrev pub is_definition : Table → TypeName → ℕ → Bool
is_definition table name index = defines name (type_at table index)

-- a definition is below the maximum
pub defined_below : (table : Table) (name : TypeName) (index : ℕ) → table.header.minimum_index ≤ index
    → defines name (type_at table index) ≡ true → index < table.header.maximum_index
defined_below table name index least is = let there = defined_there table name index is in
    (item_there table index there.0 least there.1).0

-- ---- a search among the numbers that may be of a name

-- Numbers don't fall, and each definition of a name has one that tells its index.
pub record AreNumbersOf (table : Table) (name : TypeName) (first : ℕ) (numbers : List ℕ) : Type 0 where
  pub rising : IsNonDecreasingBy (λ number. number) numbers
  pub complete : (index : ℕ) → table.header.minimum_index ≤ index → defines name (type_at table index) ≡ true
      → list_any (λ number. eqb (index_of_number table first number) index) numbers ≡ true

pub of_name : (table : Table) (numbering : Numbering) (name : TypeName) (first : ℕ) (numbers : List ℕ)
    → is_numbered numbering name ≡ true → first ≡ first_number numbering name
    → AreCandidates table numbering first numbers → AreNumbersOf table name first numbers
of_name table numbering name first numbers has same are = record {
  rising = are.rising;
  complete = λ index least is. are.complete name index has (sym same) least is;
}

-- none of the first numbers tells a definition of the name
abbrev pub NoneBefore : Table → TypeName → ℕ → List ℕ → ℕ → Type 0
NoneBefore table name first numbers k = (i : ℕ) (d : ℕ) → i < k
    → defines name (type_at table (index_of_number table first (get_or numbers i d))) ≡ false

module _ (table : Table) (name : TypeName) (first : ℕ) (numbers : List ℕ)
    (are : AreNumbersOf table name first numbers) where
  -- a definition has a number that tells its index, behind those that tell none
  told_behind : (k other : ℕ) → NoneBefore table name first numbers k → table.header.minimum_index ≤ other
      → is_definition table name other ≡ true
      → (i : ℕ) × (n : ℕ) × (k ≤ i) × (i < length numbers) × (get_or numbers i n ≡ n)
      × (index_of_number table first n ≡ other)
  told_behind k other before above also =
      let found = Any-from_list_any (λ (n : ℕ). eqb (index_of_number table first n) other) numbers
      (are.complete other above also) in
      let its = eqb-true (index_of_number table first found.1) other found.4 in
      elim (cases_lt found.0 k) [
        | inl earlier ↦
            absurd (both_ways (is_definition table name other)
            (rw (found.3, its) at (before found.0 found.1 earlier)) also)
        | inr later ↦ (found.0, found.1, later, found.2, found.3, its)
      ]

  -- a number that tells one comes first
  pub number_first : (k number index : ℕ) → NoneBefore table name first numbers k
      → k < length numbers → get_or numbers k number ≡ number → index ≡ index_of_number table first number
      → defines name (type_at table index) ≡ true → first_definition table name ≡ Some index
  unfolding first_definition
  number_first k number index before within here told is =
      let least : table.header.minimum_index ≤ index = omega (arith, told) in
      let below = defined_below table name index least is in
      find_first (is_definition table name) table.header.minimum_index (count_in_header table) index least
      (omega (arith, least, below)) is
      (λ other above lower. false_from_ne_true (is_definition table name other) (λ also.
      let found = told_behind k other before above also in
      let order = are.rising k found.0 number found.2 found.3 in
      let second = get_or_default numbers found.0 number found.1 found.3 in
      omega (arith, order, here, second, found.4, found.5, told, lower)))

  -- and if no number tells one, there is none
  pub number_none : NoneBefore table name first numbers (length numbers) → first_definition table name ≡ None
  unfolding first_definition
  number_none before =
      find_none (is_definition table name) table.header.minimum_index (count_in_header table)
      (λ other above below. false_from_ne_true (is_definition table name other) (λ also.
      let found = told_behind (length numbers) other before above also in omega (arith, found.2, found.3)))

-- ---- the law

is_first_by : (table : Table) (name : TypeName) (first : Option ℕ)
    → find (is_definition table name) (range_with_len table.header.minimum_index (count_in_header table)) ≡ first
    → IsFirstDefinition table name first
is_first_by table name (Some index) is =
    let found = find_found (is_definition table name) table.header.minimum_index (count_in_header table) index is in (
      record { least = found.0; most = omega (arith, found.0, found.1); defines = found.2 },
      λ other at. elim (cases_lt other index) as (λ _. index ≤ other) [
        | inl lower ↦ absurd (both_ways (is_definition table name other) (found.3 other at.least lower) at.defines)
        | inr above ↦ above
      ],
    )
is_first_by table name None is = λ other at.
    both_ways (is_definition table name other)
    (find_missed (is_definition table name) table.header.minimum_index (count_in_header table) is other at.least
    (let l = at.least in let m = at.most in omega arith)) at.defines

pub is_first : (table : Table) (name : TypeName) → IsFirstDefinition table name (first_definition table name)
unfolding first_definition
is_first table name = is_first_by table name
    (find (is_definition table name) (range_with_len table.header.minimum_index (count_in_header table))) refl

-- ---- all definitions of a name

-- The definitions below an index were found, and all of the first numbers tell indexes below it.
pub record AreNamed (table : Table) (name : TypeName) (first : ℕ) (numbers : List ℕ) (k : ℕ) (found : List ℕ)
    (next : ℕ) : Type 0 where
  pub least : table.header.minimum_index ≤ next
  pub seen : (i d : ℕ) → i < k → index_of_number table first (get_or numbers i d) < next
  pub are : found ≡ filter (is_definition table name)
      (range_with_len table.header.minimum_index (next - table.header.minimum_index))

-- no index from that of the header on is one
none_past : (table : Table) (name : TypeName) (j : ℕ) → table.header.minimum_index + count_in_header table ≤ j
    → is_definition table name j ≡ false
none_past table name j from = false_from_ne_true (is_definition table name j) (λ also.
    let below = defined_below table name j (omega (arith, from)) also in absurd (omega (arith, below, from)))

module _ (table : Table) (name : TypeName) (first : ℕ) (numbers : List ℕ)
    (are : AreNumbersOf table name first numbers) (k : ℕ) (found : List ℕ) (next : ℕ)
    (named : AreNamed table name first numbers k found next) where
  -- an index that no number tells from the next one on is none
  unnamed : (j : ℕ) → next ≤ j
      → ((i d : ℕ) → k ≤ i → i < length numbers → j < index_of_number table first (get_or numbers i d))
      → is_definition table name j ≡ false
  unnamed j from above = false_from_ne_true (is_definition table name j) (λ also.
      let there = told_behind table name first numbers are 0 j (λ i d none. absurd (omega (arith, none)))
      (omega (arith, named.least, from)) also in
      let at : get_or numbers there.0 there.1 ≡ there.1 = there.4 in
      elim (cases_lt there.0 k) [
        | inl earlier ↦ absurd (omega (arith, named.seen there.0 there.1 earlier, at, there.5, from))
        | inr later ↦ absurd (omega (arith, above there.0 there.1 later there.3, at, there.5))
      ])

  -- one more number, of an index that was not seen
  pub named_more : (x : ℕ) → k < length numbers → ((d : ℕ) → index_of_number table first (get_or numbers k d) ≡ x)
      → next ≤ x
      → AreNamed table name first numbers (k + 1) (found ++ cond (is_definition table name x) (x ∷ []) []) (x + 1)
  named_more x within here order = record {
    least = omega (arith, named.least, order);
    seen = λ i d below. elim (cases_lt i k) as (λ _. index_of_number table first (get_or numbers i d) < x + 1) [
      | inl earlier ↦ omega (arith, named.seen i d earlier, order)
      | inr last ↦ let same : i ≡ k = omega (arith, last, below) in rw same (omega (arith, here d))
    ];
    are =
        ap (λ (l : List ℕ). l ++ cond (is_definition table name x) (x ∷ []) []) named.are
        ∙ sym (filter_next (is_definition table name) table.header.minimum_index next x named.least order
        (λ j from below. unnamed j from
        (λ i d later within'. omega (arith, are.rising k i d later within', here d, below))));
  }

  -- behind all numbers, all were found
  pub named_all : length numbers ≤ k → all_definitions table name ≡ found
  unfolding all_definitions
  named_all past =
      let least = named.least in
      sym (
      named.are
      ∙ filter_end (is_definition table name) table.header.minimum_index (next - table.header.minimum_index)
      (count_in_header table)
      (λ j from. unnamed j (omega (arith, from, least))
      (λ i d later within. absurd (omega (arith, later, within, past))))
      (none_past table name))

-- ---- all definitions of a name, from the records of a whole table

-- the definitions among the first indexes of a table
abbrev pub defined_among : Table → TypeName → ℕ → List ℕ
defined_among table name above = filter (is_definition table name) (range_with_len table.header.minimum_index above)

pub scanned_more : (table : Table) (name : TypeName) (above index : ℕ) (found : List ℕ)
    → index ≡ table.header.minimum_index + above → found ≡ defined_among table name above
    → found ++ cond (is_definition table name index) (index ∷ []) [] ≡ defined_among table name (above + 1)
scanned_more table name above index found told are =
    let least = table.header.minimum_index in
    let x = least + above in
    let long : x + 1 - least ≡ above + 1 = omega arith in
    let short : x - least ≡ above = omega arith in
    rw (are, told) (sym (rw (long, short) at (filter_next (is_definition table name) least x x (omega arith)
    (omega arith) (λ j from below. absurd (omega (arith, from, below))))))

pub scanned_all : (table : Table) (name : TypeName) (found : List ℕ)
    → found ≡ defined_among table name (most_above table + 1) → all_definitions table name ≡ found
unfolding all_definitions
scanned_all table name found are = sym (are
    ∙ filter_end (is_definition table name) table.header.minimum_index (most_above table + 1) (count_in_header table)
    (λ j from. false_from_ne_true (is_definition table name j) (λ also.
    let near = defined_near table name j (omega (arith, from)) also in absurd (omega (arith, near, from))))
    (none_past table name))

-- the first of all is the first
first_by : (p : ℕ → Bool) (numbers : List ℕ) → find p numbers ≡ slice_get (filter p numbers) 0
first_by p [] = refl
first_by p (n ∷ numbers) = elim (cases_Bool (p n)) [
  | inl passes ↦ rw passes refl
  | inr fails ↦ rw fails (first_by p numbers)
]

pub first_of_all : (table : Table) (name : TypeName) (found : List TypeIndex) (first : Option TypeIndex)
    → all_definitions table name ≡ map (λ (index : TypeIndex). index.0) found → first ≡ slice_get found 0
    → first_definition table name ≡ option_map (λ (index : TypeIndex). index.0) first
unfolding first_definition all_definitions
first_of_all table name found first all is =
    first_by (is_definition table name) (range_with_len table.header.minimum_index (count_in_header table))
    ∙ rw (all, is) (slice_get-map (λ (index : TypeIndex). index.0) found 0)
