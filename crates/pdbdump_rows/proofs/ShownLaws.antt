-- What is shown of a text has no hidden character.
use Rattle.std.proofs.Common.{◌≡◌, ℕ, ◌<◌, Bool, true, false, ◌&&◌, leb, List, [], ◌∷◌, ◌++◌, refl, sym, ap}
use Rattle.std.proofs.Common.{subst, ◌∙◌, arith, not, append-nil, ⊎_elim}
use Rattle.std.specs.List.{flat_map, list_all}
use Rattle.std.specs.Char.{encode_utf8}
use Rattle.std.proofs.lemmas.Str.{encode_ascii}
use Rattle.std.proofs.lemmas.Grind.{flat_map-append}
use Rattle.std.proofs.lemmas.List.Folds.{list_all-append}
use Rattle.std.proofs.lemmas.Bool.{and_parts, cond-true, cond-false, cases_Bool}
use Rattle.std.proofs.lemmas.Bool.Decides.{nat_tests}
use Rattle.bstr.specs.Utf8.{lossy_chars}
use Rattle.pdbdump_rows.specs.declared.form.Form.{Form}
use Rattle.pdbdump_rows.specs.declared.form.Form.TheVariants.{Text, Json}
use Rattle.pdbdump_rows.specs.Laws.{HasNoneHidden, IsEscape, short, long, is_hexadecimal, is_short, is_shown}
use Rattle.pdbdump_rows.specs.Text.{escape, is_escaped, is_hidden, shown_char, shown_text}
use Rattle.pdbdump_rows.proofs.PlainText.{ascii_is_shown}
use Rattle.pdbdump_rows.proofs.StringLaws.{AreEscapes, and_both, escape_is, one, two}

-- whether a byte is a printable character of ASCII
abbrev is_ascii : ℕ → Bool
is_ascii byte = leb 32 byte && leb byte 126

ascii_shown : (byte : ℕ) → is_ascii byte ≡ true → is_shown byte ≡ true
unfolding is_hidden
ascii_shown byte good =
    let small : byte < 128 = grind (arith, nat_tests) in
    let shown = ascii_is_shown byte small in grind (arith, nat_tests)

ascii_all_shown : (bytes : List ℕ) → list_all is_ascii bytes ≡ true → list_all is_shown bytes ≡ true
ascii_all_shown [] all = refl
ascii_all_shown (byte ∷ bytes) all =
    let both = and_parts (is_ascii byte) (list_all is_ascii bytes) all in
    and_both (ascii_shown byte both.0) (ascii_all_shown bytes both.1)

ascii_encoded : (bytes : List ℕ) → list_all is_ascii bytes ≡ true → bytes ≡ flat_map encode_utf8 bytes
ascii_encoded [] all = refl
ascii_encoded (byte ∷ bytes) all =
    let both = and_parts (is_ascii byte) (list_all is_ascii bytes) all in
    let good : is_ascii byte ≡ true = both.0 in
    let small : byte < 128 = grind (arith, nat_tests) in
    ap (λ (rest : List ℕ). byte ∷ rest) (ascii_encoded bytes both.1)
    ∙ ap (λ (front : List ℕ). front ++ flat_map encode_utf8 bytes) (sym (encode_ascii byte small))

ascii : (bytes : List ℕ) → list_all is_ascii bytes ≡ true → HasNoneHidden bytes
ascii bytes all = record { characters = bytes; shown = ascii_all_shown bytes all; written = ascii_encoded bytes all }

hexadecimal_ascii : (digit : ℕ) → is_hexadecimal digit ≡ true → is_ascii digit ≡ true
hexadecimal_ascii digit good = grind (arith, nat_tests)

short_ascii : (letter : ℕ) → is_short letter ≡ true → is_ascii letter ≡ true
short_ascii letter good = grind (arith, nat_tests)

escape_shown : (bytes : List ℕ) → IsEscape bytes → HasNoneHidden bytes
escape_shown bytes (short letter good) = ascii bytes (and_both refl (and_both (short_ascii letter good) refl))
escape_shown bytes (long a b c d first second third last) =
    ascii bytes (and_both refl (and_both refl (and_both (hexadecimal_ascii a first)
    (and_both (hexadecimal_ascii b second)
    (and_both (hexadecimal_ascii c third) (and_both (hexadecimal_ascii d last) refl))))))

joined : (front rear : List ℕ) → HasNoneHidden front → HasNoneHidden rear → HasNoneHidden (front ++ rear)
joined front rear first second = record {
  characters = first.characters ++ second.characters;
  shown = list_all-append is_shown first.characters second.characters ∙ and_both first.shown second.shown;
  written = ap (λ (bytes : List ℕ). bytes ++ rear) first.written
      ∙ ap (λ (bytes : List ℕ). flat_map encode_utf8 first.characters ++ bytes) second.written
      ∙ sym (flat_map-append encode_utf8 first.characters second.characters);
}

escapes_shown : (bytes : List ℕ) → AreEscapes bytes → HasNoneHidden bytes
escapes_shown _ (one bytes is) = escape_shown bytes is
escapes_shown _ (two first second is also) =
    joined first second (escape_shown first is) (escape_shown second also)

unescaped_shown : (form : Form) (c : ℕ) → is_escaped form c ≡ false → is_shown c ≡ true
unescaped_shown Text c fails = ap not fails
unescaped_shown Json c fails = grind (arith, nat_tests)

char_shown : (form : Form) (c : ℕ) → HasNoneHidden (shown_char form c)
unfolding shown_char
char_shown form c = ⊎_elim
    (λ (holds : is_escaped form c ≡ true). subst HasNoneHidden
    (sym (cond-true (is_escaped form c) (escape c) (encode_utf8 c) holds)) (escapes_shown (escape c) (escape_is c)))
    (λ (fails : is_escaped form c ≡ false). subst HasNoneHidden
    (sym (cond-false (is_escaped form c) (escape c) (encode_utf8 c) fails)) (record {
      characters = c ∷ [];
      shown = and_both (unescaped_shown form c fails) refl;
      written = sym (append-nil (encode_utf8 c));
    }))
    (cases_Bool (is_escaped form c))

chars_shown : (form : Form) (cs : List ℕ) → HasNoneHidden (flat_map (shown_char form) cs)
chars_shown form [] = ascii [] refl
chars_shown form (c ∷ cs) = joined (shown_char form c) (flat_map (shown_char form) cs) (char_shown form c)
    (chars_shown form cs)

pub text_is_shown : (form : Form) (bytes : List ℕ) → HasNoneHidden (shown_text form bytes)
unfolding shown_text
text_is_shown form bytes = chars_shown form (lossy_chars bytes)
