-- Readers read just what is spelled.
use Rattle.std.proofs.Common.{◌≡◌, ◌≢◌, ℕ, ℤ, zero, suc, ◌==◌, inl, inr, true, false, List, [], ◌∷◌, ◌++◌, length, take}
use Rattle.std.proofs.Common.{drop, refl, sym, ap, ◌∙◌, arith, length-append, subst, Ok}
use Rattle.std.specs.List.{AllByRecursion}
use Rattle.std.specs.Int.{Width, cast_signed}
use Rattle.std.proofs.Math.Seq.{drop-append_seam, take-append_seam}
use Rattle.std.proofs.lemmas.Bool.{cases_lt, ne_eqb}
use Rattle.std.proofs.Math.Dec.{eqb-suc-zero}
use Rattle.std.proofs.lemmas.List.{take-append-drop, length-take-le, append_assoc}
use Rattle.byteorder.specs.Endian.{little_number}
use Rattle.pdb_base.specs.Refusal.{unexpected_eof}
use Rattle.pdb_base.specs.Answer.{◌>>=◌}
use Rattle.pdb_base.specs.Reading.{front_at, number_at, signed_at, text_at, pascal_text_at}
use Rattle.pdb_base.specs.Spelling.{SpellsNumber, SpellsSigned, SpellsText, SpellsPascalText, Begins}
use Rattle.pdb_base.specs.Spelling.{ReadsWhatIsSpelled}
use Rattle.pdb_base.proofs.lemmas.Collected.{ok, ok_is, ok_is_no_err, bind_ok}
use Rattle.pdb_base.proofs.lemmas.Reading.{front_whole, front_cut}

-- ---- the front

-- what a front is
front_is : (count : ℕ) (bytes : List ℕ) (x : List ℕ × List ℕ) → front_at count bytes ≡ Ok x → (length x.0 ≡ count)
    × (x.0 ++ x.1 ≡ bytes)
front_is count bytes x e = elim (cases_lt (length bytes) count) [
  | inl short ↦ absurd (ok_is_no_err x unexpected_eof (sym e ∙ front_cut count bytes short))
  | inr long ↦
      let is : (take count bytes, drop count bytes) ≡ x =
      ok_is (take count bytes, drop count bytes) x (sym (front_whole count bytes long) ∙ e) in (
        sym (ap (λ (p : List ℕ × List ℕ). length p.0) is)
            ∙ length-take-le count bytes long,
        sym (ap (λ (p : List ℕ × List ℕ). p.0 ++ p.1) is)
            ∙ take-append-drop count bytes,
      )
]

front_of : (front rest : List ℕ) → front_at (length front) (front ++ rest) ≡ Ok (front, rest)
front_of front rest =
    front_whole (length front) (front ++ rest) (omega (arith, length-append front rest))
    ∙ ap (λ (f : List ℕ). ok (f, drop (length front) (front ++ rest))) (take-append_seam front rest)
    ∙ ap (λ (r : List ℕ). ok (front, r)) (drop-append_seam front rest)

-- ---- numbers

number_of : (width : ℕ) (front rest : List ℕ) → length front ≡ width
    → number_at width (front ++ rest) ≡ Ok (little_number width front, rest)
unfolding number_at
number_of width front rest len = rw (← len, front_of front rest) refl

pub numbers : (width : ℕ) → ReadsWhatIsSpelled (SpellsNumber width) (number_at width)
unfolding number_at
numbers width = record {
  found = λ bytes number rest e.
      let front = bind_ok (front_at width bytes) (λ f. Ok (little_number width f.0, f.1)) (number, rest) e in
      let parts = front_is width bytes front.0 front.1 in
      let is : (little_number width front.0.0, front.0.1) ≡ (number, rest) =
      ok_is (little_number width front.0.0, front.0.1) (number, rest) front.2 in
      record {
        front = front.0.0;
        spelled = record { len = parts.0; is = ap (λ (p : ℕ × List ℕ). p.0) is };
        is = ap (λ (p : ℕ × List ℕ). front.0.0 ++ p.1) (sym is) ∙ parts.1;
      };
  only = λ bytes number rest begins.
      ap (number_at width) (sym begins.is) ∙ number_of width begins.front rest begins.spelled.len
      ∙ ap (λ (n : ℕ). ok (n, rest)) begins.spelled.is;
}

pub signed_numbers : (signed : Width) (width : ℕ)
    → ReadsWhatIsSpelled (SpellsSigned signed width) (signed_at signed width)
unfolding signed_at
signed_numbers signed width = record {
  found = λ bytes number rest e.
      let plain = bind_ok (number_at width bytes) (λ n. Ok (cast_signed signed n.0, n.1)) (number, rest) e in
      let begins = (numbers width).found bytes plain.0.0 plain.0.1 plain.1 in
      let is : (cast_signed signed plain.0.0, plain.0.1) ≡ (number, rest) =
      ok_is (cast_signed signed plain.0.0, plain.0.1) (number, rest) plain.2 in
      record {
        front = begins.front;
        spelled = record { bits = plain.0.0; spelled = begins.spelled; is = ap (λ (p : ℤ × List ℕ). p.0) is };
        is = ap (λ (p : ℤ × List ℕ). begins.front ++ p.1) (sym is) ∙ begins.is;
      };
  only = λ bytes number rest begins.
      let plain = (numbers width).only bytes begins.spelled.bits rest
      (record { front = begins.front; spelled = begins.spelled.spelled; is = begins.is }) in
      rw plain (ap (λ (z : ℤ). ok (z, rest)) begins.spelled.is);
}

-- ---- texts

text_behind : (byte : ℕ) (bytes : List ℕ) → (byte == 0) ≡ false
    → text_at (byte ∷ bytes) ≡ (text_at bytes >>= λ text. Ok (byte ∷ text.0, text.1))
text_behind byte bytes other = rw other refl

text_here : (byte : ℕ) (bytes : List ℕ) → (byte == 0) ≡ true → text_at (byte ∷ bytes) ≡ Ok ([], bytes)
text_here byte bytes nul = rw nul refl

text_found : (bytes text rest : List ℕ) → text_at bytes ≡ Ok (text, rest) → Begins SpellsText bytes text rest
text_found [] text rest e = absurd cc
text_found (zero ∷ bytes) text rest e =
    let is : ([], bytes) ≡ (text, rest) = ok_is ([], bytes) (text, rest) (sym (text_here 0 bytes refl) ∙ e) in
    let begins : Begins SpellsText (0 ∷ bytes) [] bytes =
    record { front = 0 ∷ []; spelled = record { no_nul = tt; is = refl }; is = refl } in
    subst (λ (p : List ℕ × List ℕ). Begins SpellsText (0 ∷ bytes) p.0 p.1) is begins
text_found (suc byte ∷ bytes) text rest e =
    let behind = bind_ok (text_at bytes) (λ t. Ok (suc byte ∷ t.0, t.1)) (text, rest)
    (sym (text_behind (suc byte) bytes (eqb-suc-zero byte)) ∙ e) in
    let rests = text_found bytes behind.0.0 behind.0.1 behind.1 in
    let is : (suc byte ∷ behind.0.0, behind.0.1) ≡ (text, rest) =
    ok_is (suc byte ∷ behind.0.0, behind.0.1) (text, rest) behind.2 in
    let begins : Begins SpellsText (suc byte ∷ bytes) (suc byte ∷ behind.0.0) behind.0.1 = record {
      front = suc byte ∷ rests.front;
      spelled = record {
        no_nul = (λ h. absurd (omega (arith, h)), rests.spelled.no_nul);
        is = ap (λ (r : List ℕ). suc byte ∷ r) rests.spelled.is;
      };
      is = ap (λ (r : List ℕ). suc byte ∷ r) rests.is;
    } in
    subst (λ (p : List ℕ × List ℕ). Begins SpellsText (suc byte ∷ bytes) p.0 p.1) is begins

text_of : (text rest : List ℕ) → AllByRecursion (λ byte. byte ≢ 0) text → text_at (text ++ 0 ∷ rest) ≡ Ok (text, rest)
text_of [] rest none = text_here 0 rest refl
text_of (byte ∷ text) rest none =
    let ih = text_of text rest none.1 in
    text_behind byte (text ++ 0 ∷ rest) (ne_eqb byte 0 none.0) ∙ rw ih refl

pub texts : ReadsWhatIsSpelled SpellsText text_at
texts = record {
  found = text_found;
  only = λ bytes text rest begins.
      let all : bytes ≡ text ++ 0 ∷ rest =
      sym begins.is ∙ ap (λ (f : List ℕ). f ++ rest) (sym begins.spelled.is) ∙ append_assoc text (0 ∷ []) rest in
      ap text_at all ∙ text_of text rest begins.spelled.no_nul;
}

one_byte : (front : List ℕ) (n : ℕ) → length front ≡ 1 → little_number 1 front ≡ n → front ≡ n ∷ []
one_byte [] n len is = absurd (omega (arith, len))
one_byte (byte ∷ []) n len is = ap (λ (m : ℕ). m ∷ []) (omega (arith, is))
one_byte (byte ∷ other ∷ front) n len is = absurd (omega (arith, len))

pub pascal_texts : ReadsWhatIsSpelled SpellsPascalText pascal_text_at
unfolding pascal_text_at
pascal_texts = record {
  found = λ bytes text rest e.
      let len = bind_ok (number_at 1 bytes) (λ n. front_at n.0 n.1) (text, rest) e in
      let begins = (numbers 1).found bytes len.0.0 len.0.1 len.1 in
      let parts = front_is len.0.0 len.0.1 (text, rest) len.2 in
      let byte : begins.front ≡ length text ∷ [] = one_byte begins.front len.0.0 begins.spelled.len begins.spelled.is
      ∙ ap (λ (n : ℕ). n ∷ []) (sym parts.0) in
      record {
        front = length text ∷ text;
        spelled = refl;
        is = ap (λ (r : List ℕ). length text ∷ r) parts.1 ∙ ap (λ (f : List ℕ). f ++ len.0.1) (sym byte) ∙ begins.is;
      };
  only = λ bytes text rest begins.
      let all : bytes ≡ (length text ∷ []) ++ (text ++ rest) = sym begins.is
      ∙ ap (λ (f : List ℕ). f ++ rest) (sym begins.spelled) in
      let one : little_number 1 (length text ∷ []) ≡ length text = omega arith in
      let byte : number_at 1 ((length text ∷ []) ++ (text ++ rest)) ≡ Ok (length text, text ++ rest) =
      number_of 1 (length text ∷ []) (text ++ rest) refl ∙ ap (λ (n : ℕ). ok (n, text ++ rest)) one in
      rw (all, byte) (front_of text rest);
}
