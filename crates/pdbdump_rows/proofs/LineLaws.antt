-- A row is one line.
use Rattle.std.proofs.Common.{◌≡◌, ℕ, zero, suc, ◌+◌, ◌/◌, ◌%◌, ◌<◌, ◌≤◌, ◌==◌, ℤ, pos, negsuc, Bool, true, false, cond}
use Rattle.std.proofs.Common.{leb, ltb, List, [], ◌∷◌, ◌++◌, codes, refl, ap, ◌∙◌, arith, ⊎_elim}
use Rattle.std.specs.Fmt.{decimal, digit_glyph, digits, digits_onto, signed_decimal}
use Rattle.std.specs.List.{filter, flat_map, list_all}
use Rattle.std.specs.Char.{encode_utf8}
use Rattle.std.proofs.lemmas.Str.{encode_ascii}
use Rattle.std.proofs.lemmas.Bool.{and_parts, cond-true, cond-false, cases_Bool, cases_lt}
use Rattle.std.proofs.lemmas.Bool.Decides.{nat_tests}
use Rattle.bstr.specs.Utf8.{lossy_chars}
use Rattle.pdbdump_rows.specs.declared.form.Form.{Form}
use Rattle.pdbdump_rows.specs.declared.form.Form.TheVariants.{Text, Json}
use Rattle.pdbdump_rows.specs.Laws.{IsEscape, IsLine, short, long, is_hexadecimal, is_short}
use Rattle.pdbdump_rows.specs.Lines.{field_line, field_text, fields_text, front_text, index_text, is_leading, is_shown}
use Rattle.pdbdump_rows.specs.Lines.{shown_leaf_text, list_text, row_text, separate, separator, value_text}
use Rattle.pdbdump_rows.specs.Row as rows
use Rattle.pdbdump_rows.specs.Row.{ShownField, ShownRow, ShownValue}
use Rattle.pdbdump_rows.specs.Text.{escape, is_escaped, is_hidden, in_quotes, shown_char, shown_text}
use Rattle.pdbdump_rows.proofs.StringLaws.{AreEscapes, and_both, escape_is, one, two, wide_bytes}

-- whether no byte is below 0x20
abbrev printable : List ℕ → Bool
printable bytes = list_all (λ byte. leb 32 byte) bytes

joined : (front rear : List ℕ) → printable front ≡ true → printable rear ≡ true → printable (front ++ rear) ≡ true
joined [] rear good rest = rest
joined (byte ∷ front) rear good rest =
    let both = and_parts (leb 32 byte) (printable front) good in
    and_both both.0 (joined front rear both.1 rest)

all_joined : {A : Type 0} (text : A → List ℕ) (items : List A) → ((item : A) → printable (text item) ≡ true)
    → printable (flat_map text items) ≡ true
all_joined text [] each = refl
all_joined text (item ∷ items) each = joined (text item) (flat_map text items) (each item) (all_joined text items each)

hexadecimal_printable : (digit : ℕ) → is_hexadecimal digit ≡ true → leb 32 digit ≡ true
hexadecimal_printable digit good = grind (arith, nat_tests)

short_printable : (letter : ℕ) → is_short letter ≡ true → leb 32 letter ≡ true
short_printable letter good = grind (arith, nat_tests)

escape_printable : (bytes : List ℕ) → IsEscape bytes → printable bytes ≡ true
escape_printable bytes (short letter good) = and_both refl (and_both (short_printable letter good) refl)
escape_printable bytes (long a b c d first second third last) =
    and_both refl (and_both refl (and_both (hexadecimal_printable a first)
    (and_both (hexadecimal_printable b second)
    (and_both (hexadecimal_printable c third) (and_both (hexadecimal_printable d last) refl)))))

wide_byte : (byte : ℕ) → leb 128 byte ≡ true → leb 32 byte ≡ true
wide_byte byte high = grind (arith, nat_tests)

wide_printable : (bytes : List ℕ) → list_all (λ byte. leb 128 byte) bytes ≡ true → printable bytes ≡ true
wide_printable [] all = refl
wide_printable (byte ∷ bytes) all =
    let both = and_parts (leb 128 byte) (list_all (λ byte. leb 128 byte) bytes) all in
    and_both (wide_byte byte both.0) (wide_printable bytes both.1)

escapes_printable : (bytes : List ℕ) → AreEscapes bytes → printable bytes ≡ true
escapes_printable _ (one bytes is) = escape_printable bytes is
escapes_printable _ (two first second is also) =
    joined first second (escape_printable first is) (escape_printable second also)

unescaped_printable : (form : Form) (c : ℕ) → is_escaped form c ≡ false → leb 32 c ≡ true
unfolding is_hidden
unescaped_printable Text c fails = grind (arith, nat_tests)
unescaped_printable Json c fails = grind (arith, nat_tests)

char_printable : (form : Form) (c : ℕ) → printable (shown_char form c) ≡ true
unfolding shown_char
char_printable form c = ⊎_elim
    (λ (holds : is_escaped form c ≡ true). ap printable (cond-true (is_escaped form c) (escape c) (encode_utf8 c) holds)
    ∙ escapes_printable (escape c) (escape_is c))
    (λ (fails : is_escaped form c ≡ false). ap printable
    (cond-false (is_escaped form c) (escape c) (encode_utf8 c) fails) ∙ ⊎_elim
    (λ (low : c < 128). ap printable (encode_ascii c low) ∙ and_both (unescaped_printable form c fails) refl)
    (λ (high : 128 ≤ c). wide_printable (encode_utf8 c) (wide_bytes c high))
    (cases_lt c 128))
    (cases_Bool (is_escaped form c))

text_printable : (form : Form) (bytes : List ℕ) → printable (shown_text form bytes) ≡ true
unfolding shown_text
text_printable form bytes = all_joined (shown_char form) (lossy_chars bytes) (char_printable form)

quoted_printable : (form : Form) (bytes : List ℕ) → printable (in_quotes form bytes) ≡ true
unfolding in_quotes
quoted_printable Text bytes = text_printable Text bytes
quoted_printable Json bytes = and_both refl (joined (shown_text Json bytes) (34 ∷ []) (text_printable Json bytes) refl)

glyph_printable : (d : ℕ) → leb 32 (digit_glyph false d) ≡ true
glyph_printable d = elim (ltb d 10) as (λ v. leb 32 (cond v (48 + d) (87 + d)) ≡ true) [
  | true ↦
      (grind (arith, nat_tests))
  | false ↦ (grind (arith, nat_tests))
]

digits_onto_printable : (k base n : ℕ) (rear : List ℕ) → printable rear ≡ true
    → printable (digits_onto k base false n rear) ≡ true
digits_onto_printable zero base n rear good = good
digits_onto_printable (suc k) base n rear good =
    let digit = digit_glyph false (n % base) in
    let more : printable (digit ∷ rear) ≡ true = and_both (glyph_printable (n % base)) good in
    elim (n / base == 0) as (λ v. printable (cond v (digit ∷ rear) (digits_onto k base false (n / base) (digit ∷ rear)))
    ≡ true) [ true ↦ more | false ↦ digits_onto_printable k base (n / base) (digit ∷ rear) more ]

digits_printable : (base n : ℕ) → printable (digits base false n) ≡ true
unfolding digits
digits_printable base n = digits_onto_printable 64 base n [] refl

signed_printable : (z : ℤ) → printable (signed_decimal z) ≡ true
signed_printable (pos n) = digits_printable 10 n
signed_printable (negsuc n) = and_both refl (digits_printable 10 (suc n))

index_printable : (form : Form) (n : ℕ) → printable (index_text form n) ≡ true
index_printable Text n = joined (codes "0x") (digits 16 false n) refl (digits_printable 16 n)
index_printable Json n = digits_printable 10 n

separated_printable : {A : Type 0} (between : List ℕ) (text : A → List ℕ) (items : List A) → printable between ≡ true
    → ((item : A) → printable (text item) ≡ true) → printable (separate between text items) ≡ true
separated_printable between text [] good each = refl
separated_printable between text (item ∷ items) good each =
    joined (text item) (flat_map (λ next. between ++ text next) items) (each item)
    (all_joined (λ next. between ++ text next) items (λ next. joined between (text next) good (each next)))

list_printable : {A : Type 0} (text : A → List ℕ) (items : List A) → ((item : A) → printable (text item) ≡ true)
    → printable (list_text text items) ≡ true
unfolding list_text
list_printable text items each =
    joined (codes "[" ++ separate (codes ",") text items) (codes "]")
    (joined (codes "[") (separate (codes ",") text items) refl
    (separated_printable (codes ",") text items refl each)) refl

value_printable : (form : Form) (value : ShownValue) → printable (value_text form value) ≡ true
value_printable form (rows.number n) = digits_printable 10 n
value_printable form (rows.signed z) = signed_printable z
value_printable form (rows.hexadecimal n) = index_printable form n
value_printable form (rows.kind leaf) = quoted_printable form (shown_leaf_text leaf)
value_printable form (rows.flag true) = refl
value_printable form (rows.flag false) = refl
value_printable form (rows.text bytes) = quoted_printable form bytes
value_printable form (rows.words names) = list_printable (in_quotes form) names (quoted_printable form)
value_printable form (rows.numbers list) = list_printable decimal list (digits_printable 10)
value_printable form (rows.indexes list) = list_printable (index_text form) list (index_printable form)
value_printable form rows.absent = refl

front_printable : (form : Form) (name : List ℕ) → printable (front_text form name) ≡ true
front_printable Text name = elim (is_leading name) as
    (λ v. printable (cond v [] (shown_text Text name ++ codes "=")) ≡ true) [
      | true ↦ refl
      | false ↦
          joined (shown_text Text name) (codes "=") (text_printable Text name) refl
    ]
front_printable Json name = joined (in_quotes Json name) (codes ":") (quoted_printable Json name) refl

field_printable : (form : Form) (field : ShownField) → printable (field_text form field) ≡ true
unfolding field_text
field_printable form field = joined (front_text form field.0) (value_text form field.1) (front_printable form field.0)
    (value_printable form field.1)

separator_printable : (form : Form) → printable (separator form) ≡ true
separator_printable Text = refl
separator_printable Json = refl

fields_printable : (form : Form) (row : ShownRow) → printable (fields_text form row) ≡ true
unfolding fields_text
fields_printable form row = separated_printable (separator form) (field_text form) (filter (is_shown form) row)
    (separator_printable form) (field_printable form)

pub row_is_line : (form : Form) (row : ShownRow) → IsLine (row_text form row)
unfolding row_text
row_is_line Text row = record { front = fields_text Text row; printable = fields_printable Text row; ends = refl }
row_is_line Json row = record {
  front = codes "{" ++ fields_text Json row ++ codes "}";
  printable = joined (codes "{" ++ fields_text Json row) (codes "}")
      (joined (codes "{") (fields_text Json row) refl (fields_printable Json row)) refl;
  ends = refl;
}

pub field_is_line : (field : ShownField) → IsLine (field_line field)
unfolding field_line
field_is_line field = record {
  front = shown_text Text field.0 ++ codes ": " ++ value_text Text field.1;
  printable = joined (shown_text Text field.0 ++ codes ": ") (value_text Text field.1)
      (joined (shown_text Text field.0) (codes ": ") (text_printable Text field.0) refl) (value_printable Text field.1);
  ends = refl;
}
