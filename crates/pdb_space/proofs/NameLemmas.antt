-- The name at an offset ends at the first NUL among the names.
use Rattle.std.proofs.Common.{◌≡◌, ◌≢◌, ℕ, zero, suc, ◌+◌, ◌-◌, ◌≤◌, ◌==◌, inl, inr, false, List, [], ◌∷◌, ◌++◌}
use Rattle.std.proofs.Common.{length, take, drop, refl, sym, ap, ◌∙◌, arith, subst, Some, None, Ok, Err}
use Rattle.std.specs.List.{slice_get, AllByRecursion}
use Rattle.std.proofs.Math.Dec.{eqb-suc-zero}
use Rattle.std.proofs.Math.Seq.{drop-append_seam}
use Rattle.std.proofs.lemmas.List.{append_assoc, length-append, length-drop, length-take-le, take-append-drop}
use Rattle.std.proofs.lemmas.Option.{slice_get_past, same_Some}
use Rattle.pdb_base.specs.Refusal.{Refusal, unexpected_eof, out_of_memory}
use Rattle.pdb_base.specs.Answer.{◌>>=◌}
use Rattle.pdb_base.specs.Reading.{text_at}
use Rattle.pdb_base.specs.Spelling.{SpellsText, Begins}
use Rattle.pdb_base.proofs.lemmas.Collected.{err, ok_is, err_is, ok_is_no_err, bind_ok, answer_cases, bind_err}
use Rattle.pdb_base.proofs.lemmas.Spelling.{texts}
use Rattle.pdb_space.specs.StringTable.{name_of}
use Rattle.pdb_space.specs.StringTableLaws.{IsNameAt, HasNoNul, FindsName}

-- ---- places

slice_get-drop : (offset : ℕ) (names : List ℕ) (k : ℕ) → slice_get (drop offset names) k ≡ slice_get names (offset + k)
slice_get-drop zero names k = ap (slice_get names) (omega arith)
slice_get-drop (suc offset) [] k = slice_get_past {X = ℕ} [] k (omega arith)
    ∙ sym (slice_get_past {X = ℕ} [] (suc offset + k) (omega arith))
slice_get-drop (suc offset) (name ∷ names) k =
    let next : suc offset + k ≡ suc (offset + k) = omega arith in
    slice_get-drop offset names k ∙ ap (slice_get (name ∷ names)) (sym next)

-- the element behind a front
slice_get-seam : (front : List ℕ) (x : ℕ) (rest : List ℕ) → slice_get (front ++ x ∷ rest) (length front) ≡ Some x
slice_get-seam [] x rest = refl
slice_get-seam (y ∷ front) x rest = slice_get-seam front x rest

-- ---- no NUL

-- one more byte, which is no NUL
no_nul_before : (byte : ℕ) (bytes : List ℕ) → HasNoNul bytes 0 → HasNoNul (suc byte ∷ bytes) 0
no_nul_before byte bytes no_nul zero _ nul = let same : suc byte ≡ 0 = same_Some (suc byte) 0 nul in
    absurd (omega (arith, same))
no_nul_before byte bytes no_nul (suc place) _ nul = no_nul place (omega arith) nul

-- bytes of which no text is read have no NUL
text_missing : (bytes : List ℕ) (e : Refusal) → text_at bytes ≡ Err e → (e ≡ unexpected_eof) × HasNoNul bytes 0
text_missing [] e h = (
  sym (err_is {A = List ℕ × List ℕ} unexpected_eof e h),
  λ place _ nul. absurd (let past : slice_get {X = ℕ} [] place ≡ None =
      slice_get_past {X = ℕ} [] place (omega arith) in cc),
)
text_missing (zero ∷ bytes) e h = absurd (ok_is_no_err ([], bytes) e h)
text_missing (suc byte ∷ bytes) e h =
    let other : (suc byte == 0) ≡ false = eqb-suc-zero byte in
    let split : text_at (suc byte ∷ bytes) ≡ (text_at bytes >>= λ text. Ok (suc byte ∷ text.0, text.1)) =
    rw other refl in
    let rest = text_missing bytes e (bind_err (text_at bytes) (λ text. (suc byte ∷ text.0, text.1)) e
    (sym split ∙ h)) in
    (rest.0, no_nul_before byte bytes rest.1)

-- names of which no name is found at the offset have no NUL from there on
missing : (names : List ℕ) (offset : ℕ) (e : Refusal) → name_of names offset ≡ Err e → (e ≡ unexpected_eof)
    × HasNoNul names offset
unfolding name_of
missing names offset e h =
    let none = text_missing (drop offset names) e (bind_err (text_at (drop offset names)) (λ text. text.0) e h) in (
      none.0,
      λ place behind nul.
          let same : offset + (place - offset) ≡ place = omega arith in
          none.1 (place - offset) (omega arith) (slice_get-drop offset names (place - offset)
          ∙ ap (slice_get names) same ∙ nul),
    )

-- ---- a name

found : (names : List ℕ) (offset : ℕ) (name : List ℕ) → name_of names offset ≡ Ok name → IsNameAt names offset name
unfolding name_of
found names offset name e =
    let text = bind_ok (text_at (drop offset names)) (λ t. Ok t.0) name e in
    let begins = texts.found (drop offset names) text.0.0 text.0.1 text.1 in
    let is : text.0.0 ≡ name = ok_is text.0.0 name text.2 in
    let left : text.0.0 ++ 0 ∷ text.0.1 ≡ drop offset names =
    sym (append_assoc text.0.0 (0 ∷ []) text.0.1) ∙ ap (λ (f : List ℕ). f ++ text.0.1) begins.spelled.is ∙ begins.is in
    let within : offset ≤ length names = omega
    (arith, ap length left, length-append text.0.0 (0 ∷ text.0.1), length-drop offset names) in
    record {
      before = take offset names;
      behind = text.0.1;
      place = length-take-le offset names within;
      no_nul = subst (λ (t : List ℕ). AllByRecursion (λ byte. byte ≢ 0) t) is begins.spelled.no_nul;
      is = ap (λ (t : List ℕ). take offset names ++ t ++ 0 ∷ text.0.1) (sym is)
          ∙ append_assoc (take offset names) text.0.0 (0 ∷ text.0.1)
          ∙ ap (λ (r : List ℕ). take offset names ++ r) left
          ∙ take-append-drop offset names;
    }

-- what stands from a name's place on
from_place : (names : List ℕ) (offset : ℕ) (name : List ℕ) (here : IsNameAt names offset name)
    → drop offset names ≡ name ++ 0 ∷ here.behind
from_place names offset name here =
    ap (drop offset) (sym here.is ∙ append_assoc here.before name (0 ∷ here.behind))
    ∙ ap (λ (n : ℕ). drop n (here.before ++ (name ++ 0 ∷ here.behind))) (sym here.place)
    ∙ drop-append_seam here.before (name ++ 0 ∷ here.behind)

only : (names : List ℕ) (offset : ℕ) (name : List ℕ) → IsNameAt names offset name → name_of names offset ≡ Ok name
unfolding name_of
only names offset name here =
    let begins : Begins SpellsText (drop offset names) name here.behind = record {
      front = name ++ 0 ∷ [];
      spelled = record { no_nul = here.no_nul; is = refl };
      is = append_assoc name (0 ∷ []) here.behind ∙ sym (from_place names offset name here);
    } in
    rw (texts.only (drop offset names) name here.behind begins) refl

none : (names : List ℕ) (offset : ℕ) → HasNoNul names offset → name_of names offset ≡ Err unexpected_eof
none names offset no_nul = elim (answer_cases (name_of names offset)) [
  | inr refused ↦ refused.1 ∙ ap (λ (e : Refusal). err e) (missing names offset refused.0 refused.1).0
  | inl there ↦
      let here = found names offset there.0 there.1 in
      absurd (no_nul (offset + length there.0) (omega arith)
      (sym (slice_get-drop offset names (length there.0))
      ∙ ap (λ (r : List ℕ). slice_get r (length there.0)) (from_place names offset there.0 here)
      ∙ slice_get-seam there.0 0 here.behind))
]

pub finds_name : (names : List ℕ) (offset : ℕ) → FindsName names offset
finds_name names offset = record {
  found = found names offset;
  only = only names offset;
  missing = missing names offset;
  none = none names offset;
}

-- a name that is not there is no want of memory
pub no_want : (names : List ℕ) (offset : ℕ) → name_of names offset ≡ Err out_of_memory → ⊥
no_want names offset h = let is = (missing names offset out_of_memory h).0 in cc
