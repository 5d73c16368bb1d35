-- Readers that agree with grammars, put together.
use Rattle.std.proofs.Common.{◌≡◌, ◌⊎◌, inl, inr, ℕ, List, sym, ap, ◌∙◌, subst, Ok, Err}
use Rattle.pdb_base.specs.Refusal.{Refusal, unexpected_eof}
use Rattle.pdb_base.specs.Answer.{Answer, ◌>>=◌}
use Rattle.pdb_base.specs.Spelling.{Begins, ReadsWhatIsSpelled}
use Rattle.pdb_base.proofs.lemmas.Collected.{ok, err, ok_is, err_is, ok_is_no_err, bind_ok, answer_cases, bind_err}
use Rattle.pdb_records.specs.Agreement.{Agrees, NoTwoValues}
use Rattle.pdb_records.specs.Fault.{BeginsNone}

-- what follows a value, and what follows a refusal
pub bind_at : {A B : Type 0} (answer : Answer A) (f : A → Answer B) (x : A) → answer ≡ Ok x → (answer >>= f) ≡ f x
bind_at {A} answer f x is = ap (λ (r : Answer A). r >>= f) is

pub bind_no : {A B : Type 0} (answer : Answer A) (f : A → Answer B) (e : Refusal) → answer ≡ Err e
    → (answer >>= f) ≡ Err e
bind_no {A} answer f e is = ap (λ (r : Answer A). r >>= f) is

-- the same reader, by a grammar in other words
pub reworded : {A : Type 0} (read : List ℕ → Answer (A × List ℕ)) (Is To : List ℕ → A → List ℕ → Type 0)
    (Fails Refused : List ℕ → Refusal → Type 0)
    → Agrees read Is Fails
    → ((bytes : List ℕ) (x : A) (rest : List ℕ) → Is bytes x rest → To bytes x rest)
    → ((bytes : List ℕ) (x : A) (rest : List ℕ) → To bytes x rest → Is bytes x rest)
    → ((bytes : List ℕ) (e : Refusal) → Fails bytes e → Refused bytes e)
    → ((bytes : List ℕ) (e : Refusal) → Refused bytes e → Fails bytes e)
    → Agrees read To Refused
reworded read Is To Fails Refused agrees there back fault cause = record {
  found = λ bytes x rest is. there bytes x rest (agrees.found bytes x rest is);
  only = λ bytes x rest is. agrees.only bytes x rest (back bytes x rest is);
  failed = λ bytes e is. fault bytes e (agrees.failed bytes e is);
  fails = λ bytes e is. agrees.fails bytes e (cause bytes e is);
}

-- nothing is read, and a value is answered
pub given : {A : Type 0} (a : A) → Agrees (λ bytes. ok (a, bytes)) (λ bytes x rest. (a ≡ x) × (bytes ≡ rest))
    (λ bytes e. ⊥)
given {A} a = record {
  found = λ bytes x rest is.
      let same : (a, bytes) ≡ (x, rest) = ok_is (a, bytes) (x, rest) is in
      (ap (λ (p : A × List ℕ). p.0) same, ap (λ (p : A × List ℕ). p.1) same);
  only = λ bytes x rest is. ap (λ (y : A). ok (y, bytes)) is.0 ∙ ap (λ (r : List ℕ). ok (x, r)) is.1;
  failed = λ bytes e is. ok_is_no_err (a, bytes) e is;
  fails = λ bytes e no. absurd no;
}

-- a value made of another
pub mapped : {A B : Type 0} (f : A → B) (one : List ℕ → Answer (A × List ℕ)) (Is : List ℕ → A → List ℕ → Type 0)
    (Fails : List ℕ → Refusal → Type 0)
    → Agrees one Is Fails
    → Agrees (λ bytes. one bytes >>= λ x. ok (f x.0, x.1)) (λ bytes y rest. (x : A) × Is bytes x rest × (f x ≡ y)) Fails
mapped {A} {B} f one Is Fails agrees = record {
  found = λ bytes y rest is.
      let b = bind_ok (one bytes) (λ x. ok (f x.0, x.1)) (y, rest) is in
      let same : (f b.0.0, b.0.1) ≡ (y, rest) = ok_is (f b.0.0, b.0.1) (y, rest) b.2 in
      let there : Is bytes b.0.0 b.0.1 = agrees.found bytes b.0.0 b.0.1 b.1 in (
        b.0.0,
        subst (λ (r : List ℕ). Is bytes b.0.0 r) (ap (λ (p : B × List ℕ). p.1) same) there,
        ap (λ (p : B × List ℕ). p.0) same,
      );
  only = λ bytes y rest is.
      bind_at (one bytes) (λ x. ok (f x.0, x.1)) (is.0, rest) (agrees.only bytes is.0 rest is.1)
      ∙ ap (λ (z : B). ok (z, rest)) is.2;
  failed = λ bytes e is. agrees.failed bytes e (bind_err (one bytes) (λ x. (f x.0, x.1)) e is);
  fails = λ bytes e is. bind_no (one bytes) (λ x. ok (f x.0, x.1)) e (agrees.fails bytes e is);
}

-- one reader, and behind its value another
pub chained : {A B : Type 0} (one : List ℕ → Answer (A × List ℕ)) (Is : List ℕ → A → List ℕ → Type 0)
    (Fails : List ℕ → Refusal → Type 0) (more : A → List ℕ → Answer (B × List ℕ))
    (Then : A → List ℕ → B → List ℕ → Type 0) (Stops : A → List ℕ → Refusal → Type 0)
    → Agrees one Is Fails
    → ((x : A) → Agrees (more x) (Then x) (Stops x))
    → Agrees (λ bytes. one bytes >>= λ x. more x.0 x.1)
    (λ bytes y rest. (x : A) × (mid : List ℕ) × Is bytes x mid × Then x mid y rest)
    (λ bytes e. Fails bytes e ⊎ ((x : A) × (mid : List ℕ) × Is bytes x mid × Stops x mid e))
chained {A} {B} one Is Fails more Then Stops first behind = record {
  found = λ bytes y rest is.
      let b = bind_ok (one bytes) (λ x. more x.0 x.1) (y, rest) is in
      (b.0.0, b.0.1, first.found bytes b.0.0 b.0.1 b.1, (behind b.0.0).found b.0.1 y rest b.2);
  only = λ bytes y rest is.
      bind_at (one bytes) (λ x. more x.0 x.1) (is.0, is.1) (first.only bytes is.0 is.1 is.2)
      ∙ (behind is.0).only is.1 y rest is.3;
  failed = λ bytes e is.
      elim (answer_cases (one bytes)) [
        | inl there ↦
            inr (
              there.0.0,
              there.0.1,
              first.found bytes there.0.0 there.0.1 there.1,
              (behind there.0.0).failed there.0.1 e (sym (bind_at (one bytes) (λ x. more x.0 x.1) there.0 there.1)
                  ∙ is),
            )
        | inr refused ↦
            let same : refused.0 ≡ e = err_is {A = B × List ℕ} refused.0 e
            (sym (bind_no (one bytes) (λ x. more x.0 x.1) refused.0 refused.1) ∙ is) in
            inl (first.failed bytes e (refused.1 ∙ ap (λ (d : Refusal). err d) same))
      ];
  fails = λ bytes e is.
      elim is [
        | inl refused ↦ bind_no (one bytes) (λ x. more x.0 x.1) e (first.fails bytes e refused)
        | inr behind_it ↦
            bind_at (one bytes) (λ x. more x.0 x.1) (behind_it.0, behind_it.1)
            (first.only bytes behind_it.0 behind_it.1 behind_it.2)
            ∙ (behind behind_it.0).fails behind_it.1 e behind_it.3
      ];
}

-- a reader that reads what is spelled, whose refusals are told by a fault that says one refusal of
-- each bytes
pub by_fault : {A : Type 0} (Spells : A → List ℕ → Type 0) (read : List ℕ → Answer (A × List ℕ))
    (Fault : List ℕ → Refusal → Type 0)
    → ReadsWhatIsSpelled Spells read
    → ((bytes : List ℕ) (e : Refusal) → read bytes ≡ Err e → Fault bytes e)
    → ((bytes : List ℕ) (d e : Refusal) → Fault bytes d → Fault bytes e → d ≡ e)
    → Agrees read (Begins Spells) (λ bytes e. BeginsNone Spells bytes × Fault bytes e)
by_fault {A} Spells read Fault spelled faulted one = record {
  found = spelled.found;
  only = spelled.only;
  failed = λ bytes e is. (
    λ x rest begins. ok_is_no_err (x, rest) e (sym (spelled.only bytes x rest begins) ∙ is),
    faulted bytes e is,
  );
  fails = λ bytes e none.
      elim (answer_cases (read bytes)) [
        | inl there ↦ absurd (none.0 there.0.0 there.0.1 (spelled.found bytes there.0.0 there.0.1 there.1))
        | inr refused ↦ refused.1 ∙ ap (λ (d : Refusal). err d)
            (one bytes refused.0 e (faulted bytes refused.0 refused.1) none.1)
      ];
}

-- a reader that refuses only bytes that end too soon
pub by_end : {A : Type 0} (Spells : A → List ℕ → Type 0) (read : List ℕ → Answer (A × List ℕ))
    → ReadsWhatIsSpelled Spells read
    → ((bytes : List ℕ) (e : Refusal) → read bytes ≡ Err e → e ≡ unexpected_eof)
    → Agrees read (Begins Spells) (λ bytes e. BeginsNone Spells bytes × (e ≡ unexpected_eof))
by_end Spells read spelled ends = by_fault Spells read (λ bytes e. e ≡ unexpected_eof) spelled ends
    (λ bytes d e p q. p ∙ sym q)

-- bytes that are refused begin with no value
pub with_none : {A : Type 0} (Spells : A → List ℕ → Type 0) (read : List ℕ → Answer (A × List ℕ))
    (Fails : List ℕ → Refusal → Type 0)
    → Agrees read (Begins Spells) Fails
    → Agrees read (Begins Spells) (λ bytes e. BeginsNone Spells bytes × Fails bytes e)
with_none {A} Spells read Fails agrees = record {
  found = agrees.found;
  only = agrees.only;
  failed = λ bytes e is. (
    λ x rest begins. ok_is_no_err (x, rest) e (sym (agrees.only bytes x rest begins) ∙ is),
    agrees.failed bytes e is,
  );
  fails = λ bytes e none. agrees.fails bytes e none.1;
}

-- Where a reader agrees with a grammar, no bytes have two values.
pub one_value : {A : Type 0} (read : List ℕ → Answer (A × List ℕ)) (Is : List ℕ → A → List ℕ → Type 0)
    (Fails : List ℕ → Refusal → Type 0) → Agrees read Is Fails → NoTwoValues Is
one_value {A} read Is Fails agrees bytes one other rest end is too =
    let same : ◌≡◌ {A = A × List ℕ} (one, rest) (other, end) =
    ok_is (one, rest) (other, end) (sym (agrees.only bytes one rest is) ∙ agrees.only bytes other end too) in
    (ap (λ (p : A × List ℕ). p.0) same, ap (λ (p : A × List ℕ). p.1) same)
