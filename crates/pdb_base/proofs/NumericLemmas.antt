-- A number of variable width that is refused leaves a buffer where it was.
use Rattle.std.proofs.Common.{◌≡◌, ℕ, ◌≤◌, List, length, min, inl, inr, sym, ap, ◌∙◌, arith, Result, Ok, Err, OnErr}
use Rattle.std.proofs.lemmas.Bool.{cases_lt}
use Rattle.std.proofs.lemmas.List.{length-drop}
use Rattle.pdb_base.specs.Refusal.{unexpected_eof}
use Rattle.pdb_base.specs.Place.{Place, left, StaysWithin}
use Rattle.pdb_base.specs.Reading.{number_at}
use Rattle.pdb_base.proofs.lemmas.Collected.{ok_is_no_err}
use Rattle.pdb_base.proofs.lemmas.Reading.{number_cut}

-- where a number was read, its bytes were there
held : (width : ℕ) (bytes : List ℕ) (x : ℕ × List ℕ) → number_at width bytes ≡ Ok x → width ≤ length bytes
held width bytes x read = elim (cases_lt (length bytes) width) [
  | inl short ↦ absurd (ok_is_no_err x unexpected_eof (sym read ∙ number_cut width bytes short))
  | inr long ↦ long
]

-- behind a prefix and what follows it, the way back leads to where the prefix stood
gone_back : (old behind moved back : Place) (prefix : ℕ) → number_at 2 (left old) ≡ Ok (prefix, left behind)
    → StaysWithin old behind → StaysWithin behind moved → back ≡ record moved { pos = min old.pos (length moved.slice) }
    → back ≡ old
gone_back old behind moved back prefix read first second is =
    let long : 2 ≤ length (left old) = held 2 (left old) (prefix, left behind) read in
    let same : moved.slice ≡ old.slice = second.slice ∙ first.slice in
    let there : min old.pos (length old.slice) ≡ old.pos = omega (arith, long, length-drop old.pos old.slice) in
    is ∙ ap (λ (slice : List ℕ). record { slice = slice; pos = min old.pos (length slice) }) same
    ∙ ap (λ (pos : ℕ). record { slice = old.slice; pos = pos }) there

-- what holds, holds where there is an error
where_err : {T E P : Type 0} (r : Result T E) → P → OnErr r P
where_err (Ok x) p = tt
where_err (Err e) p = p

-- so a refused number leaves the buffer where it was
pub stays : {T E : Type 0} (result : Result T E) (old behind moved back : Place) (prefix : ℕ)
    → number_at 2 (left old) ≡ Ok (prefix, left behind) → StaysWithin old behind → StaysWithin behind moved
    → back ≡ record moved { pos = min old.pos (length moved.slice) } → OnErr result (back ≡ old)
stays result old behind moved back prefix read first second is =
    where_err result (gone_back old behind moved back prefix read first second is)
