-- What reaches to the end of the bytes is read as it fills them.
use Rattle.std.proofs.Common.{◌≡◌, ◌≢◌, inl, inr, ℕ, zero, suc, ◌≤◌, List, [], ◌∷◌, length, refl, sym, ap, ◌∙◌, subst}
use Rattle.std.proofs.Common.{arith, Ok, Err}
use Rattle.pdb_base.specs.Refusal.{Refusal}
use Rattle.pdb_base.specs.Answer.{Answer, ◌>>=◌}
use Rattle.pdb_base.proofs.lemmas.Collected.{ok, err, ok_is, err_is, ok_is_no_err, bind_ok, answer_cases, bind_err}
use Rattle.pdb_records.specs.Agreement.{Agrees}
use Rattle.pdb_records.specs.ToEnd.{TakesBytes, Sequence, Fills, FailsBehind, read_upto, to_end}
use Rattle.pdb_records.proofs.Agreeing.{bind_at, bind_no}

no_cons : (byte : ℕ) (bytes : List ℕ) → byte ∷ bytes ≢ []
no_cons byte bytes is = cc

found_upto : {A : Type 0} (read : List ℕ → Answer (A × List ℕ)) (Is : List ℕ → A → List ℕ → Type 0)
    (Fails : List ℕ → Refusal → Type 0)
    → Agrees read Is Fails → TakesBytes Is → (most : ℕ) (bytes : List ℕ) → length bytes ≤ most
    → (xs : List A) (rest : List ℕ) → read_upto read most bytes ≡ Ok (xs, rest) → Fills Is bytes xs rest
found_upto {A} read Is Fails agrees shrinks most [] fits xs rest is =
    subst (λ (p : List A × List ℕ). Fills Is [] p.0 p.1) (ok_is ([], []) (xs, rest) is) (refl, refl)
found_upto {A} read Is Fails agrees shrinks zero (byte ∷ bytes) fits xs rest is = absurd (omega (arith, fits))
found_upto {A} read Is Fails agrees shrinks (suc most) (byte ∷ bytes) fits xs rest is =
    let first = bind_ok (read (byte ∷ bytes)) (λ x. read_upto read most x.1 >>= λ ys. Ok (x.0 ∷ ys.0, ys.1))
    (xs, rest) is in
    let behind = bind_ok (read_upto read most first.0.1) (λ ys. Ok (first.0.0 ∷ ys.0, ys.1)) (xs, rest) first.2 in
    let here : Is (byte ∷ bytes) first.0.0 first.0.1 = agrees.found (byte ∷ bytes) first.0.0 first.0.1 first.1 in
    let less : length first.0.1 ≤ most = omega (arith, fits, shrinks (byte ∷ bytes) first.0.0 first.0.1 here) in
    let more = found_upto read Is Fails agrees shrinks most first.0.1 less behind.0.0 behind.0.1 behind.1 in
    let same : (first.0.0 ∷ behind.0.0, behind.0.1) ≡ (xs, rest) =
    ok_is (first.0.0 ∷ behind.0.0, behind.0.1) (xs, rest) behind.2 in
    let all : Fills Is (byte ∷ bytes) (first.0.0 ∷ behind.0.0) behind.0.1 = ((first.0.1, here, more.0), more.1) in
    subst (λ (p : List A × List ℕ). Fills Is (byte ∷ bytes) p.0 p.1) same all

only_upto : {A : Type 0} (read : List ℕ → Answer (A × List ℕ)) (Is : List ℕ → A → List ℕ → Type 0)
    (Fails : List ℕ → Refusal → Type 0)
    → Agrees read Is Fails → TakesBytes Is → (most : ℕ) (bytes : List ℕ) → length bytes ≤ most
    → (xs : List A) (rest : List ℕ) → Fills Is bytes xs rest → read_upto read most bytes ≡ Ok (xs, rest)
only_upto {A} read Is Fails agrees shrinks most [] fits [] rest is = ap (λ (r : List ℕ). ok ([], r)) is.0
only_upto {A} read Is Fails agrees shrinks most [] fits (x ∷ xs) rest is =
    absurd (omega (arith, shrinks [] x is.0.0 is.0.1))
only_upto {A} read Is Fails agrees shrinks zero (byte ∷ bytes) fits xs rest is = absurd (omega (arith, fits))
only_upto {A} read Is Fails agrees shrinks (suc most) (byte ∷ bytes) fits [] rest is =
    absurd (no_cons byte bytes (is.0 ∙ is.1))
only_upto {A} read Is Fails agrees shrinks (suc most) (byte ∷ bytes) fits (x ∷ xs) rest is =
    let mid = is.0.0 in
    let less : length mid ≤ most = omega (arith, fits, shrinks (byte ∷ bytes) x mid is.0.1) in
    let more = only_upto read Is Fails agrees shrinks most mid less xs rest (is.0.2, is.1) in
    bind_at (read (byte ∷ bytes)) (λ y. read_upto read most y.1 >>= λ ys. Ok (y.0 ∷ ys.0, ys.1)) (x, mid)
    (agrees.only (byte ∷ bytes) x mid is.0.1)
    ∙ bind_at (read_upto read most mid) (λ ys. Ok (x ∷ ys.0, ys.1)) (xs, rest) more

failed_upto : {A : Type 0} (read : List ℕ → Answer (A × List ℕ)) (Is : List ℕ → A → List ℕ → Type 0)
    (Fails : List ℕ → Refusal → Type 0)
    → Agrees read Is Fails → TakesBytes Is → (most : ℕ) (bytes : List ℕ) → length bytes ≤ most → (e : Refusal)
    → read_upto read most bytes ≡ Err e → FailsBehind Is Fails bytes e
failed_upto {A} read Is Fails agrees shrinks most [] fits e is = absurd (ok_is_no_err ([], []) e is)
failed_upto {A} read Is Fails agrees shrinks zero (byte ∷ bytes) fits e is = absurd (omega (arith, fits))
failed_upto {A} read Is Fails agrees shrinks (suc most) (byte ∷ bytes) fits e is =
    let f : A × List ℕ → Answer (List A × List ℕ) = λ x. read_upto read most x.1 >>= λ ys. Ok (x.0 ∷ ys.0, ys.1) in
    elim (answer_cases (read (byte ∷ bytes))) [
      | inl there ↦
          let here : Is (byte ∷ bytes) there.0.0 there.0.1 = agrees.found (byte ∷ bytes) there.0.0 there.0.1 there.1 in
          let less : length there.0.1 ≤ most = omega (arith, fits, shrinks (byte ∷ bytes) there.0.0 there.0.1 here) in
          let behind : read_upto read most there.0.1 ≡ Err e =
          bind_err (read_upto read most there.0.1) (λ ys. (there.0.0 ∷ ys.0, ys.1)) e
          (sym (bind_at (read (byte ∷ bytes)) f there.0 there.1) ∙ is) in
          let more = failed_upto read Is Fails agrees shrinks most there.0.1 less e behind in
          (there.0.0 ∷ more.0, more.1, (there.0.1, here, more.2), more.3, more.4)
      | inr refused ↦
          let same : refused.0 ≡ e = err_is {A = List A × List ℕ} refused.0 e
          (sym (bind_no (read (byte ∷ bytes)) f refused.0 refused.1) ∙ is) in (
            [],
            byte ∷ bytes,
            refl,
            no_cons byte bytes,
            agrees.failed (byte ∷ bytes) e (refused.1 ∙ ap (λ (d : Refusal). err d) same),
          )
    ]

fails_upto : {A : Type 0} (read : List ℕ → Answer (A × List ℕ)) (Is : List ℕ → A → List ℕ → Type 0)
    (Fails : List ℕ → Refusal → Type 0)
    → Agrees read Is Fails → TakesBytes Is → (most : ℕ) (bytes : List ℕ) → length bytes ≤ most
    → (e : Refusal) (xs : List A) (mid : List ℕ) → Sequence Is bytes xs mid → mid ≢ [] → Fails mid e
    → read_upto read most bytes ≡ Err e
fails_upto {A} read Is Fails agrees shrinks most [] fits e [] mid seq some fault = absurd (some (sym seq))
fails_upto {A} read Is Fails agrees shrinks most [] fits e (x ∷ xs) mid seq some fault =
    absurd (omega (arith, shrinks [] x seq.0 seq.1))
fails_upto {A} read Is Fails agrees shrinks zero (byte ∷ bytes) fits e xs mid seq some fault =
    absurd (omega (arith, fits))
fails_upto {A} read Is Fails agrees shrinks (suc most) (byte ∷ bytes) fits e [] mid seq some fault =
    let here : read (byte ∷ bytes) ≡ Err e = ap read seq ∙ agrees.fails mid e fault in
    bind_no (read (byte ∷ bytes)) (λ x. read_upto read most x.1 >>= λ ys. Ok (x.0 ∷ ys.0, ys.1)) e here
fails_upto {A} read Is Fails agrees shrinks (suc most) (byte ∷ bytes) fits e (x ∷ xs) mid seq some fault =
    let less : length seq.0 ≤ most = omega (arith, fits, shrinks (byte ∷ bytes) x seq.0 seq.1) in
    let more = fails_upto read Is Fails agrees shrinks most seq.0 less e xs mid seq.2 some fault in
    bind_at (read (byte ∷ bytes)) (λ y. read_upto read most y.1 >>= λ ys. Ok (y.0 ∷ ys.0, ys.1)) (x, seq.0)
    (agrees.only (byte ∷ bytes) x seq.0 seq.1)
    ∙ bind_no (read_upto read most seq.0) (λ ys. Ok (x ∷ ys.0, ys.1)) e more

pub to_end_agrees : {A : Type 0} (read : List ℕ → Answer (A × List ℕ)) (Is : List ℕ → A → List ℕ → Type 0)
    (Fails : List ℕ → Refusal → Type 0)
    → Agrees read Is Fails → TakesBytes Is → Agrees (to_end read) (Fills Is) (FailsBehind Is Fails)
unfolding to_end
to_end_agrees read Is Fails agrees shrinks = record {
  found = λ bytes xs rest. found_upto read Is Fails agrees shrinks (length bytes) bytes (omega arith) xs rest;
  only = λ bytes xs rest. only_upto read Is Fails agrees shrinks (length bytes) bytes (omega arith) xs rest;
  failed = λ bytes e. failed_upto read Is Fails agrees shrinks (length bytes) bytes (omega arith) e;
  fails = λ bytes e h. fails_upto read Is Fails agrees shrinks (length bytes) bytes (omega arith) e h.0 h.1 h.2 h.3 h.4;
}
