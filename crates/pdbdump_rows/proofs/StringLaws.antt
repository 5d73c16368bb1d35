-- A text in JSON is a string.
use Rattle.std.proofs.Common.{◌≡◌, ℕ, ◌+◌, ◌-◌, ◌/◌, ◌%◌, ◌<◌, ◌≤◌, ◌==◌, Bool, true, false, cond, ◌&&◌, leb, ltb, List}
use Rattle.std.proofs.Common.{[], ◌∷◌, ◌++◌, Some, None, refl, sym, ap, subst, ◌∙◌, arith, append_assoc, ⊎_elim}
use Rattle.std.specs.Fmt.{digit_glyph}
use Rattle.std.specs.List.{flat_map, list_all}
use Rattle.std.specs.Char.{encode_utf8}
use Rattle.std.proofs.lemmas.Str.{encode_ascii}
use Rattle.std.proofs.lemmas.Bool.{and_parts, cond-true, cond-false, cases_Bool, cases_lt}
use Rattle.std.proofs.lemmas.Bool.Decides.{nat_tests}
use lib.Utf8.{encode}
use Rattle.bstr.specs.Utf8.{lossy_chars}
use Rattle.pdbdump_rows.specs.declared.form.Form.TheVariants.{Json}
use Rattle.pdbdump_rows.specs.Text.{backslash, escape, escape_by, is_escaped, is_hidden, long_escape, unit_escape}
use Rattle.pdbdump_rows.specs.Text.{shown_char, shown_text, in_quotes}
use Rattle.pdbdump_rows.specs.Laws.{IsEscape, IsInside, IsString, is_hexadecimal, is_short, is_unescaped, short, long}
use Rattle.pdbdump_rows.specs.Laws.{ended, unescaped, escaped}

-- each digit is one
pub digit_is_hexadecimal : (d : ℕ) → d < 16 → is_hexadecimal (digit_glyph false d) ≡ true
digit_is_hexadecimal d small = ⊎_elim
    (λ (low : d < 10). let is : digit_glyph false d ≡ 48 + d =
    cond-true (ltb d 10) (48 + d) _ (grind (arith, nat_tests)) in
    subst (λ glyph. is_hexadecimal glyph ≡ true) (sym is) (grind (arith, nat_tests)))
    (λ (high : 10 ≤ d). let is : digit_glyph false d ≡ 87 + d =
    cond-false (ltb d 10) _ (87 + d) (grind (arith, nat_tests)) in
    subst (λ glyph. is_hexadecimal glyph ≡ true) (sym is) (grind (arith, nat_tests)))
    (cases_lt d 10)

pub and_both : {a b : Bool} → a ≡ true → b ≡ true → (a && b) ≡ true
and_both {a} {b} first second = ap (λ (x : Bool). x && b) first ∙ second

above : (least more : ℕ) → leb 128 least ≡ true → leb 128 (least + more) ≡ true
above least more high = grind (arith, nat_tests)

-- every byte of a character above ASCII is above ASCII
wide_rest : (c : ℕ) (a b : Bool)
    → list_all (λ byte. leb 128 byte) (cond a ((192 + c / 64) ∷ (128 + c % 64) ∷ [])
    (cond b ((224 + c / 4096) ∷ (128 + c / 64 % 64) ∷ (128 + c % 64) ∷ [])
    ((240 + c / 262144) ∷ (128 + c / 4096 % 64) ∷ (128 + c / 64 % 64) ∷ (128 + c % 64) ∷ []))) ≡ true
wide_rest c true b = and_both (above 192 (c / 64) refl) (and_both (above 128 (c % 64) refl) refl)
wide_rest c false true = and_both (above 224 (c / 4096) refl)
    (and_both (above 128 (c / 64 % 64) refl) (and_both (above 128 (c % 64) refl) refl))
wide_rest c false false = and_both (above 240 (c / 262144) refl)
    (and_both (above 128 (c / 4096 % 64) refl)
    (and_both (above 128 (c / 64 % 64) refl) (and_both (above 128 (c % 64) refl) refl)))

pub wide_bytes : (c : ℕ) → 128 ≤ c → list_all (λ byte. leb 128 byte) (encode c) ≡ true
unfolding encode
wide_bytes c wide =
    let fails : ltb c 128 ≡ false = grind (arith, nat_tests) in
    ap (list_all (λ byte. leb 128 byte)) (cond-false (ltb c 128) (c ∷ []) _ fails)
    ∙ wide_rest c (ltb c 2048) (ltb c 65536)

-- such bytes stand for themselves
wide_inside : (bytes rest : List ℕ) → list_all (λ byte. leb 128 byte) bytes ≡ true → IsInside rest
    → IsInside (bytes ++ rest)
wide_inside [] rest all good = good
wide_inside (byte ∷ bytes) rest all good =
    let both = and_parts (leb 128 byte) (list_all (λ byte. leb 128 byte) bytes) all in
    let high : leb 128 byte ≡ true = both.0 in
    unescaped byte (bytes ++ rest) (grind (arith, nat_tests)) (wide_inside bytes rest both.1 good)

-- One escape, or two, one behind the other.
pub data AreEscapes : List ℕ → Type 0 where
  one : (bytes : List ℕ) → IsEscape bytes → AreEscapes bytes
  two : (first second : List ℕ) → IsEscape first → IsEscape second → AreEscapes (first ++ second)

unit_is : (n : ℕ) → IsEscape (unit_escape n)
unit_is n =
    long (digit_glyph false (n / 4096 % 16)) (digit_glyph false (n / 256 % 16)) (digit_glyph false (n / 16 % 16))
    (digit_glyph false (n % 16))
    (digit_is_hexadecimal (n / 4096 % 16) (omega arith)) (digit_is_hexadecimal (n / 256 % 16) (omega arith))
    (digit_is_hexadecimal (n / 16 % 16) (omega arith)) (digit_is_hexadecimal (n % 16) (omega arith))

units_are : (is_small : Bool) (n high low : ℕ)
    → AreEscapes (cond is_small (unit_escape n) (unit_escape high ++ unit_escape low))
units_are true n high low = one (unit_escape n) (unit_is n)
units_are false n high low = two (unit_escape high) (unit_escape low) (unit_is high) (unit_is low)

long_are : (n : ℕ) → AreEscapes (long_escape n)
unfolding long_escape
long_are n = units_are (ltb n 65536) n (55296 + (n - 65536) / 1024) (56320 + (n - 65536) % 1024)

by_letter : (letter : ℕ) → is_short letter ≡ true → AreEscapes (backslash ∷ letter ∷ [])
by_letter letter good = one (backslash ∷ letter ∷ []) (short letter good)

-- whichever escape is found
chain : (a b c d e f g : Bool) (n : ℕ)
    → AreEscapes (escape_by n
    (cond a (Some 34) (cond b (Some 92) (cond c (Some 98)
    (cond d (Some 116) (cond e (Some 110) (cond f (Some 102) (cond g (Some 114) None))))))))
chain true b c d e f g n = by_letter 34 refl
chain false true c d e f g n = by_letter 92 refl
chain false false true d e f g n = by_letter 98 refl
chain false false false true e f g n = by_letter 116 refl
chain false false false false true f g n = by_letter 110 refl
chain false false false false false true g n = by_letter 102 refl
chain false false false false false false true n = by_letter 114 refl
chain false false false false false false false n = long_are n

pub escape_is : (c : ℕ) → AreEscapes (escape c)
unfolding escape
escape_is c = chain (34 == c) (92 == c) (8 == c) (9 == c) (10 == c) (12 == c) (13 == c) c

escapes_inside : (bytes rest : List ℕ) → AreEscapes bytes → IsInside rest → IsInside (bytes ++ rest)
escapes_inside _ rest (one bytes is) good = escaped bytes rest is good
escapes_inside _ rest (two first second is also) good = subst IsInside (sym (append_assoc first second rest))
    (escaped first (second ++ rest) is (escaped second rest also good))

json_unescaped : (c : ℕ) → is_escaped Json c ≡ false → is_unescaped c ≡ true
unfolding is_hidden
json_unescaped c fails = grind (arith, nat_tests)

char_inside : (c : ℕ) (rest : List ℕ) → IsInside rest → IsInside (shown_char Json c ++ rest)
unfolding shown_char
char_inside c rest good = ⊎_elim
    (λ (holds : is_escaped Json c ≡ true). subst (λ (bytes : List ℕ). IsInside (bytes ++ rest))
    (sym (cond-true (is_escaped Json c) (escape c) (encode_utf8 c) holds))
    (escapes_inside (escape c) rest (escape_is c) good))
    (λ (fails : is_escaped Json c ≡ false). subst (λ (bytes : List ℕ). IsInside (bytes ++ rest))
    (sym (cond-false (is_escaped Json c) (escape c) (encode_utf8 c) fails)) (⊎_elim
    (λ (low : c < 128). subst (λ (bytes : List ℕ). IsInside (bytes ++ rest)) (sym (encode_ascii c low))
    (unescaped c rest (json_unescaped c fails) good))
    (λ (high : 128 ≤ c). wide_inside (encode_utf8 c) rest (wide_bytes c high) good)
    (cases_lt c 128)))
    (cases_Bool (is_escaped Json c))

chars_inside : (cs : List ℕ) → IsInside (flat_map (shown_char Json) cs)
chars_inside [] = ended
chars_inside (c ∷ cs) = char_inside c (flat_map (shown_char Json) cs) (chars_inside cs)

pub text_is_string : (bytes : List ℕ) → IsString (in_quotes Json bytes)
unfolding in_quotes shown_text
text_is_string bytes = record {
  inside = flat_map (shown_char Json) (lossy_chars bytes);
  good =
      chars_inside (lossy_chars bytes);
  between = refl;
}
