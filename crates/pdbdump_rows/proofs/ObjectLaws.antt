-- A row in JSON is an object.
use Rattle.std.proofs.Common.{◌≡◌, ◌≢◌, ℕ, zero, suc, ◌+◌, ◌*◌, ◌/◌, ◌%◌, ◌^◌, ◌<◌, ◌==◌, pos, negsuc, Bool, true}
use Rattle.std.proofs.Common.{false, cond, codes, All, List, [], ◌∷◌, ◌++◌, map, refl, sym, ap, subst, arith, lit≤}
use Rattle.std.proofs.Math.Nat.{le_trans, pow-suc}
use Rattle.std.proofs.lemmas.List.Elements.{All-nil, All-cons, All-head, All-tail}
use Rattle.std.proofs.lemmas.Bool.{cond-true}
use Rattle.std.proofs.lemmas.List.Folds.{flat_map-map}
use Rattle.std.proofs.lemmas.Bool.Decides.{nat_tests}
use Rattle.std.specs.Fmt.{decimal, digit_glyph, digits, digits_onto}
use Rattle.std.specs.List.{filter, list_all}
use Rattle.pdbdump_rows.specs.Laws.{AreDigits, HasSmallNumbers, IsMember, IsObjectLine, IsScalar, IsValue, is_digit}
use Rattle.pdbdump_rows.specs.Lines.{field_text, fields_text, is_shown, list_text, row_text, separate, value_text}
use Rattle.pdbdump_rows.specs.Lines.{shown_leaf_text}
use Rattle.pdbdump_rows.specs.Row as rows
use Rattle.pdbdump_rows.specs.Row.{ShownField, ShownRow}
use Rattle.pdbdump_rows.specs.Text.{in_quotes}
use Rattle.pdbdump_rows.specs.declared.form.Form.TheVariants.{Json}
use Rattle.pdbdump_rows.proofs.StringLaws.{and_both, text_is_string}

-- ---- numbers

-- the glyph of a digit
glyph_is : (d : ℕ) → d < 10 → digit_glyph false d ≡ 48 + d
glyph_is d small = grind (arith, nat_tests)

glyph_is_digit : (d : ℕ) → d < 10 → is_digit (digit_glyph false d) ≡ true
glyph_is_digit d small = rw (glyph_is d small) (grind (arith, nat_tests))

-- the last digit of a number, of those that are left of it
last_digit : (n : ℕ) (rear : List ℕ) → 0 < n → (n / 10 == 0) ≡ true → list_all is_digit rear ≡ true
    → AreDigits (digit_glyph false (n % 10) ∷ rear)
last_digit n rear some none good =
    let small : n % 10 < 10 = omega arith in
    let same : n % 10 ≡ n = grind (arith, nat_tests) in
    let other : digit_glyph false (n % 10) ≢ 0x30 =
    λ zeroed. omega (arith, glyph_is (n % 10) small, zeroed, same, some) in
    AreDigits.digits (digit_glyph false (n % 10)) rear (glyph_is_digit (n % 10) small) other good

-- the digits of a number before others
digits_onto_are : (k n : ℕ) (rear : List ℕ) → 0 < n → n < 10 ^ suc k → list_all is_digit rear ≡ true
    → AreDigits (digits_onto (suc k) 10 false n rear)
digits_onto_are zero n rear some less good =
    let none : (n / 10 == 0) ≡ true = grind (arith, nat_tests) in
    subst AreDigits (sym (cond-true (n / 10 == 0) _ _ none)) (last_digit n rear some none good)
digits_onto_are (suc k) n rear some less good =
    by_rest (λ left fits good. digits_onto_are k (n / 10) (digit_glyph false (n % 10) ∷ rear) left fits good)
    (n / 10 == 0) refl
  where
    by_rest : (0 < n / 10 → n / 10 < 10 ^ suc k → list_all is_digit (digit_glyph false (n % 10) ∷ rear) ≡ true
        → AreDigits (digits_onto (suc k) 10 false (n / 10) (digit_glyph false (n % 10) ∷ rear)))
        → (v : Bool) → (n / 10 == 0) ≡ v
        → AreDigits (cond v (digit_glyph false (n % 10) ∷ rear)
        (digits_onto (suc k) 10 false (n / 10) (digit_glyph false (n % 10) ∷ rear)))
    by_rest others true none = last_digit n rear some none good
    by_rest others false more =
        let whole : 10 ^ suc (suc k) ≡ 10 ^ suc k * 10 = pow-suc 10 (suc k) in
        let left : 0 < n / 10 = grind (arith, nat_tests) in
        others left (omega arith) (and_both (glyph_is_digit (n % 10) (omega arith)) good)

-- a number in decimal
decimal_is : (n : ℕ) → n < 2 ^ 64 → AreDigits (decimal n)
unfolding digits
decimal_is zero less = AreDigits.nought
decimal_is (suc n) less = digits_onto_are 63 (suc n) [] (omega arith) (le_trans less (lit≤ tt)) refl

natural_is : (n : ℕ) → n < 2 ^ 64 → IsScalar (decimal n)
natural_is n less = IsScalar.natural (decimal n) (decimal_is n less)

quoted_is : (bytes : List ℕ) → IsScalar (in_quotes Json bytes)
quoted_is bytes = IsScalar.string (in_quotes Json bytes) (text_is_string bytes)

-- ---- items with commas

-- items are shown and separated as their texts are separated
separated_mapped : {A : Type 0} (between : List ℕ) (text : A → List ℕ) (items : List A)
    → separate between text items ≡ separate between (λ (item : List ℕ). item) (map text items)
separated_mapped between text [] = refl
separated_mapped between text (item ∷ items) =
    ap (λ (rest : List ℕ). text item ++ rest) (sym (flat_map-map (λ (next : List ℕ). between ++ next) text items))

-- a list, if each of its items is shown as a scalar
list_is : {A : Type 0} (text : A → List ℕ) (items : List A) → All IsScalar (map text items)
    → IsValue (list_text text items)
unfolding list_text
list_is text items each = subst (λ (inside : List ℕ). IsValue (codes "[" ++ inside ++ codes "]"))
    (sym (separated_mapped (codes ",") text items)) (IsValue.list (map text items) each)

quoted_are : (names : List (List ℕ)) → All IsScalar (map (in_quotes Json) names)
quoted_are [] = All-nil IsScalar
quoted_are (name ∷ names) = All-cons IsScalar (in_quotes Json name) _ (quoted_is name) (quoted_are names)

naturals_are : (ns : List ℕ) → All (λ n. n < 2 ^ 64) ns → All IsScalar (map decimal ns)
naturals_are [] less = All-nil IsScalar
naturals_are (n ∷ ns) less = All-cons IsScalar (decimal n) (map decimal ns)
    (natural_is n (All-head (λ n. n < 2 ^ 64) n ns less)) (naturals_are ns (All-tail (λ n. n < 2 ^ 64) n ns less))

-- ---- members

-- the value that a field shows
value_is : (name : List ℕ) (value : rows.ShownValue) → HasSmallNumbers (name, value)
    → is_shown Json (name, value) ≡ true → IsValue (value_text Json value)
value_is name (rows.number n) less shown = IsValue.scalar _ (natural_is n less)
value_is name (rows.signed (pos n)) less shown = IsValue.scalar _ (natural_is n less)
value_is name (rows.signed (negsuc n)) less shown =
    IsValue.scalar _ (IsScalar.negative _ (decimal_is (suc n) (omega (arith, less))))
value_is name (rows.hexadecimal n) less shown = IsValue.scalar _ (natural_is n less)
value_is name (rows.kind leaf) less shown = IsValue.scalar _ (quoted_is (shown_leaf_text leaf))
value_is name (rows.flag true) less shown = IsValue.scalar _ IsScalar.true_word
value_is name (rows.flag false) less shown = IsValue.scalar _ IsScalar.false_word
value_is name (rows.text bytes) less shown = IsValue.scalar _ (quoted_is bytes)
value_is name (rows.words names) less shown = list_is (in_quotes Json) names (quoted_are names)
value_is name (rows.numbers ns) less shown = list_is decimal ns (naturals_are ns less)
value_is name (rows.indexes ns) less shown = list_is decimal ns (naturals_are ns less)
value_is name rows.absent less shown = absurd cc

member_is : (field : ShownField) → HasSmallNumbers field → is_shown Json field ≡ true
    → IsMember (field_text Json field)
unfolding field_text
member_is (name, value) less shown = record {
  name = in_quotes Json name;
  value = value_text Json value;
  named = text_is_string name;
  valued = value_is name value less shown;
  is = refl;
}

-- the fields that a row shows
members_are : (row : ShownRow) → All HasSmallNumbers row
    → All IsMember (map (field_text Json) (filter (is_shown Json) row))
members_are [] less = All-nil IsMember
members_are (field ∷ row) less =
    shown_or_not (members_are row (All-tail HasSmallNumbers field row less)) (is_shown Json field) refl
  where
    shown_or_not : All IsMember (map (field_text Json) (filter (is_shown Json) row))
        → (v : Bool) → is_shown Json field ≡ v
        → All IsMember (map (field_text Json)
        (cond v (field ∷ filter (is_shown Json) row) (filter (is_shown Json) row)))
    shown_or_not more true shown = All-cons IsMember (field_text Json field) _
        (member_is field (All-head HasSmallNumbers field row less) shown) more
    shown_or_not more false hidden = more

pub row_is_object : (row : ShownRow) → All HasSmallNumbers row → IsObjectLine (row_text Json row)
unfolding fields_text row_text
row_is_object row less = record {
  members = map (field_text Json) (filter (is_shown Json) row);
  are = members_are row less;
  is = ap (λ (inside : List ℕ). codes "{" ++ inside ++ codes "}" ++ 10 ∷ [])
      (separated_mapped (codes ",") (field_text Json) (filter (is_shown Json) row));
}
