-- A leaf that is known is read as its record, and any other is refused by its number.
use Rattle.std.proofs.Common.{ℕ, List, sym, ap, Option, Some, None}
use Rattle.pdb_base.specs.Refusal.{Refusal, unimplemented_type_kind}
use Rattle.pdb_base.specs.Answer.{Answer}
use Rattle.pdb_base.proofs.lemmas.Collected.{err, err_is, ok_is_no_err}
use Rattle.pdb_records.specs.Agreement.{Agrees}
use Rattle.pdb_records.specs.Known.{IsOfKnownLeaf, NoKnown, known_at}

pub known_agrees : {L A : Type 0} (number : ℕ) (read : L → List ℕ → Answer (A × List ℕ))
    (Is : L → List ℕ → A → List ℕ → Type 0) (No : L → List ℕ → Refusal → Type 0)
    → ((leaf : L) → Agrees (read leaf) (Is leaf) (No leaf)) → (leaf : Option L)
    → Agrees (known_at number read leaf) (IsOfKnownLeaf Is leaf) (NoKnown number No leaf)
known_agrees {L} {A} number read Is No each None = record {
  found = λ bytes x rest is. ok_is_no_err (x, rest) (unimplemented_type_kind number) (sym is);
  only = λ bytes x rest no. absurd no;
  failed = λ bytes e is. err_is {A = A × List ℕ} (unimplemented_type_kind number) e is;
  fails = λ bytes e is. ap (λ (d : Refusal). err d) is;
}
known_agrees {L} {A} number read Is No each (Some leaf) = each leaf
