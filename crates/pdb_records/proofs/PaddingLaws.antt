-- Padding is read as it is.
use Rattle.std.proofs.Common.{◌≡◌, ◌⊎◌, inl, inr, ℕ, zero, suc, ◌<◌, ◌≤◌, true, false, leb, List, [], ◌∷◌, ◌++◌, length}
use Rattle.std.proofs.Common.{take, drop, refl, sym, ap, ◌∙◌, subst, arith, length-append, Ok, Err}
use Rattle.std.proofs.Math.Seq.{drop-append_seam}
use Rattle.std.proofs.lemmas.Bool.{cases_lt, le-leb, lt-leb}
use Rattle.std.proofs.lemmas.List.{take-append-drop, length-take-le, length-drop}
use Rattle.pdb_base.specs.Refusal.{Refusal, unexpected_eof}
use Rattle.pdb_base.proofs.lemmas.Collected.{err, ok_is, err_is, ok_is_no_err}
use Rattle.pdb_records.specs.Agreement.{Agrees}
use Rattle.pdb_records.specs.ToEnd.{Sequence}
use Rattle.pdb_records.specs.Padding.{least_pad, behind_pad, IsCutPad, IsNoPad, BeginsPad, IsPadded, IsPaddedShort}
use Rattle.pdb_records.specs.Padding.{padding_behind, padding_at}

-- ---- what is read at each place

-- the rest of a pad is passed by
behind_whole : (more : ℕ) (bytes : List ℕ) → more ≤ length bytes
    → padding_behind more bytes ≡ padding_behind zero (drop more bytes)
behind_whole zero bytes fits = refl
behind_whole (suc more) [] fits = absurd (omega (arith, fits))
behind_whole (suc more) (byte ∷ bytes) fits = behind_whole more bytes (omega (arith, fits))

-- the rest of a pad is missing
behind_cut : (more : ℕ) (bytes : List ℕ) → length bytes < more → padding_behind more bytes ≡ Err unexpected_eof
behind_cut zero bytes short = absurd (omega (arith, short))
behind_cut (suc more) [] short = refl
behind_cut (suc more) (byte ∷ bytes) short = behind_cut more bytes (omega (arith, short))

at_pad : (byte : ℕ) (bytes : List ℕ) → least_pad ≤ byte
    → padding_behind zero (byte ∷ bytes) ≡ padding_behind (behind_pad byte) bytes
at_pad byte bytes large = let test : leb least_pad byte ≡ true = le-leb least_pad byte large in rw test refl

pub none_at : (bytes : List ℕ) → IsNoPad bytes → padding_behind zero bytes ≡ Ok (tt, bytes)
none_at [] none = refl
none_at (byte ∷ bytes) none = let test : leb least_pad byte ≡ false = lt-leb least_pad byte none in rw test refl

pub cut_at : (bytes : List ℕ) → IsCutPad bytes → padding_behind zero bytes ≡ Err unexpected_eof
cut_at [] cut = absurd cut
cut_at (byte ∷ bytes) cut = at_pad byte bytes cut.0 ∙ behind_cut (behind_pad byte) bytes cut.1

pub pad_at : (bytes pad rest : List ℕ) → BeginsPad bytes pad rest → padding_behind zero bytes ≡ padding_behind zero rest
pad_at bytes [] rest begins = absurd begins.0
pad_at bytes (byte ∷ more) rest begins =
    let fits : behind_pad byte ≤ length (more ++ rest) = omega (arith, begins.0.1, length-append more rest) in
    ap (λ (b : List ℕ). padding_behind zero b) (sym begins.1)
    ∙ at_pad byte (more ++ rest) begins.0.0
    ∙ behind_whole (behind_pad byte) (more ++ rest) fits
    ∙ ap (λ (n : ℕ). padding_behind zero (drop n (more ++ rest))) (sym begins.0.1)
    ∙ ap (λ (b : List ℕ). padding_behind zero b) (drop-append_seam more rest)

-- ---- every bytes begin with no pad, with a cut one or with a whole one

pub pad_cases : (bytes : List ℕ) → IsNoPad bytes
    ⊎ (IsCutPad bytes ⊎ ((pad : List ℕ) × (rest : List ℕ) × BeginsPad bytes pad rest × (length rest < length bytes)))
pad_cases [] = inl tt
pad_cases (byte ∷ bytes) = elim (cases_lt byte least_pad) [
  | inl small ↦ inl small
  | inr large ↦
      elim (cases_lt (length bytes) (behind_pad byte)) [
        | inl short ↦ inr (inl (large, short))
        | inr long ↦
            inr (inr (
              byte ∷ take (behind_pad byte) bytes,
              drop (behind_pad byte) bytes,
              (
                (large, length-take-le (behind_pad byte) bytes long),
                ap (λ (b : List ℕ). byte ∷ b) (take-append-drop (behind_pad byte) bytes),
              ),
              omega (arith, length-drop (behind_pad byte) bytes),
            ))
      ]
]

-- ---- both ways

-- bytes of which no pad is read begin with none
ended : (bytes : List ℕ) (nothing : Unit {0}) (rest : List ℕ) → IsNoPad bytes
    → padding_behind zero bytes ≡ Ok (nothing, rest) → IsPadded bytes nothing rest
ended bytes nothing rest none is =
    let same : bytes ≡ rest = ap (λ (p : Unit {0} × List ℕ). p.1)
    (ok_is (tt, bytes) (nothing, rest) (sym (none_at bytes none) ∙ is)) in
    ([], same, subst IsNoPad same none)

found_padding : (most : ℕ) (bytes : List ℕ) → length bytes ≤ most → (nothing : Unit {0}) (rest : List ℕ)
    → padding_behind zero bytes ≡ Ok (nothing, rest) → IsPadded bytes nothing rest
found_padding zero bytes fits nothing rest is = elim (pad_cases bytes) [
  | inl none ↦ ended bytes nothing rest none is
  | inr (inl cut) ↦ absurd (ok_is_no_err (nothing, rest) unexpected_eof (sym is ∙ cut_at bytes cut))
  | inr (inr pad) ↦ absurd (omega (arith, fits, pad.3))
]
found_padding (suc most) bytes fits nothing rest is = elim (pad_cases bytes) [
  | inl none ↦ ended bytes nothing rest none is
  | inr (inl cut) ↦ absurd (ok_is_no_err (nothing, rest) unexpected_eof (sym is ∙ cut_at bytes cut))
  | inr (inr pad) ↦
      let more = found_padding most pad.1 (omega (arith, fits, pad.3)) nothing rest
      (sym (pad_at bytes pad.0 pad.1 pad.2) ∙ is) in
      (pad.0 ∷ more.0, (pad.1, pad.2, more.1), more.2)
]

failed_padding : (most : ℕ) (bytes : List ℕ) → length bytes ≤ most → (e : Refusal) → padding_behind zero bytes ≡ Err e
    → IsPaddedShort bytes e
failed_padding zero bytes fits e is = elim (pad_cases bytes) [
  | inl none ↦ absurd (ok_is_no_err (tt, bytes) e (sym (none_at bytes none) ∙ is))
  | inr (inl cut) ↦ ([], bytes, refl, cut, err_is {A = Unit {0} × List ℕ} e unexpected_eof (sym is ∙ cut_at bytes cut))
  | inr (inr pad) ↦ absurd (omega (arith, fits, pad.3))
]
failed_padding (suc most) bytes fits e is = elim (pad_cases bytes) [
  | inl none ↦ absurd (ok_is_no_err (tt, bytes) e (sym (none_at bytes none) ∙ is))
  | inr (inl cut) ↦ ([], bytes, refl, cut, err_is {A = Unit {0} × List ℕ} e unexpected_eof (sym is ∙ cut_at bytes cut))
  | inr (inr pad) ↦
      let more = failed_padding most pad.1 (omega (arith, fits, pad.3)) e (sym (pad_at bytes pad.0 pad.1 pad.2) ∙ is) in
      (pad.0 ∷ more.0, more.1, (pad.1, pad.2, more.2), more.3, more.4)
]

-- pads are passed by, one after another
past_pads : (pads : List (List ℕ)) (bytes rest : List ℕ) → Sequence BeginsPad bytes pads rest
    → padding_behind zero bytes ≡ padding_behind zero rest
past_pads [] bytes rest seq = ap (λ (b : List ℕ). padding_behind zero b) seq
past_pads (pad ∷ pads) bytes rest seq = pad_at bytes pad seq.0 seq.1 ∙ past_pads pads seq.0 rest seq.2

pub padding_agrees : Agrees padding_at IsPadded IsPaddedShort
unfolding padding_at
padding_agrees = record {
  found = λ bytes nothing rest. found_padding (length bytes) bytes (omega arith) nothing rest;
  only = λ bytes nothing rest is. past_pads is.0 bytes rest is.1 ∙ none_at rest is.2;
  failed = λ bytes e. failed_padding (length bytes) bytes (omega arith) e;
  fails = λ bytes e is. past_pads is.0 bytes is.1 is.2 ∙ cut_at is.1 is.3 ∙ ap (λ (r : Refusal). err r) (sym is.4);
}
