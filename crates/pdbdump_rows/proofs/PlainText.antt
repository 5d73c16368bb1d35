-- A text of plain characters is shown as it is.
use Rattle.std.proofs.Common.{◌≡◌, ℕ, ◌<◌, ◌==◌, Bool, true, false, ◌&&◌, ◌||◌, leb, ltb, List, [], ◌∷◌, ◌++◌}
use Rattle.std.proofs.Common.{length, drop, refl, ap, ◌∙◌, arith}
use Rattle.std.specs.List.{flat_map, list_all}
use Rattle.std.proofs.lemmas.Str.{encode_ascii}
use Rattle.std.proofs.lemmas.Bool.{and_parts, cond-true, cond-false, lt-ltb}
use Rattle.std.proofs.lemmas.Bool.Decides.{nat_tests}
use Rattle.bstr.specs.Utf8.{Decoded, decoded, good, or_replacement, lossy_chars}
use Rattle.bstr.proofs.lemmas.PieceLemmas.{lossy_chars-nil, lossy_chars-step}
use Rattle.pdbdump_rows.specs.declared.form.Form.{Form}
use Rattle.pdbdump_rows.specs.declared.form.Form.TheVariants.{Text, Json}
use Rattle.ucd_table.specs.Rows.{Range, in_ranges}
use Rattle.ucd_derived.specs.Binary.{is_default_ignorable_code_point}
use Rattle.ucd_derived.specs.DefaultIgnorableCodePointRanges.{default_ignorable_code_point_ranges}
use Rattle.pdbdump_rows.specs.Text.{is_plain, is_escaped, is_hidden, shown_char, shown_text}

-- a byte below 0x80 is a character
first_is_ascii : (b : ℕ) (bs : List ℕ) → b < 128 → decoded (b ∷ bs) ≡ good b 1
first_is_ascii b bs small =
    let some : (length (b ∷ bs) == 0) ≡ false = grind (arith, nat_tests) in
    cond-false (length (b ∷ bs) == 0) _ _ some ∙ cond-true (ltb b 128) _ _ (lt-ltb b 128 small)

ascii_first : (b : ℕ) (bs : List ℕ) → b < 128 → lossy_chars (b ∷ bs) ≡ b ∷ lossy_chars bs
ascii_first b bs small =
    lossy_chars-step (b ∷ bs) (omega arith)
    ∙ ap (λ (piece : Decoded). or_replacement piece.char ∷ lossy_chars (drop piece.size (b ∷ bs)))
    (first_is_ascii b bs small)

plain_is_ascii : (b : ℕ) → is_plain b ≡ true → b < 128
plain_is_ascii b plain = grind (arith, nat_tests)

-- a code point below all ranges is in none of them
below_ranges : (ranges : List Range) (c : ℕ) → c < 128 → list_all (λ range. leb 128 range.0) ranges ≡ true
    → in_ranges ranges c ≡ false
unfolding in_ranges
below_ranges [] c small all = refl
below_ranges (range ∷ ranges) c small all =
    let both = and_parts (leb 128 range.0) (list_all (λ range. leb 128 range.0) ranges) all in
    let high : leb 128 range.0 ≡ true = both.0 in
    let fails : leb range.0 c ≡ false = grind (arith, nat_tests) in
    ap (λ (first : Bool). first && leb c range.1 || in_ranges ranges c) fails ∙ below_ranges ranges c small both.1

pub ascii_is_shown : (c : ℕ) → c < 128 → is_default_ignorable_code_point c ≡ false
unfolding is_default_ignorable_code_point default_ignorable_code_point_ranges
ascii_is_shown c small = below_ranges default_ignorable_code_point_ranges c small refl

plain_is_unescaped : (form : Form) (b : ℕ) → is_plain b ≡ true → is_escaped form b ≡ false
unfolding is_hidden
plain_is_unescaped Text b plain =
    let shown = ascii_is_shown b (plain_is_ascii b plain) in grind (arith, nat_tests)
plain_is_unescaped Json b plain =
    let shown = ascii_is_shown b (plain_is_ascii b plain) in grind (arith, nat_tests)

plain_char : (form : Form) (b : ℕ) → is_plain b ≡ true → shown_char form b ≡ b ∷ []
unfolding shown_char
plain_char form b plain = cond-false (is_escaped form b) _ _ (plain_is_unescaped form b plain)
    ∙ encode_ascii b (plain_is_ascii b plain)

pub plain_text : (form : Form) (bs : List ℕ) → list_all is_plain bs ≡ true → shown_text form bs ≡ bs
unfolding shown_text
plain_text form [] all = ap (flat_map (shown_char form)) lossy_chars-nil
plain_text form (b ∷ bs) all =
    let both = and_parts (is_plain b) (list_all is_plain bs) all in
    ap (flat_map (shown_char form)) (ascii_first b bs (plain_is_ascii b both.0))
    ∙ ap (λ (front : List ℕ). front ++ flat_map (shown_char form) (lossy_chars bs)) (plain_char form b both.0)
    ∙ ap (λ (rest : List ℕ). b ∷ rest) (plain_text form bs both.1)
