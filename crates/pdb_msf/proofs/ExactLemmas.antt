-- Refusals that come exactly: the first page number is judged before any memory is asked for.
use Rattle.std.proofs.Common.{◌≡◌, ℕ, zero, suc, ◌<◌, ◌≤◌, min, List, map, refl, arith, inl, inr, Result, Ok, Err}
use Rattle.std.proofs.lemmas.Bool.{cases_lt}
use Rattle.std.specs.List.{range_with_len}
use Rattle.pdb_base.specs.declared.error.Error.{Error}
use Rattle.pdb_base.specs.Refusal.{refusal_of}
use Rattle.pdb_base.specs.Answer.{Answer, values_of_all}
use Rattle.pdb_base.proofs.lemmas.Collected.{bind_ok}
use Rattle.pdb_msf.specs.Exactly.{RefusesExactly}
use Rattle.pdb_msf.specs.Pages.{page_number, page_numbers}

first_of_all : {A : Type 0} (f : ℕ → Answer A) (i : ℕ) (xs : List A) → 0 < i
    → values_of_all (map f (range_with_len 0 i)) ≡ Ok xs → (x : A) × (f 0 ≡ Ok x)
first_of_all f zero xs some all = absurd (omega arith)
first_of_all f (suc i) xs some all = let b = bind_ok (f 0) _ xs all in (b.0, b.1)

-- where the first number is there and good, nothing has to be refused before memory is asked for
pub first_there : {X : Type 0} (pages_used count i : ℕ) (words numbers : List ℕ) (result : Result X Error)
    → values_of_all (map (page_number pages_used words) (range_with_len 0 i)) ≡ Ok numbers → min 1 count ≤ i
    → RefusesExactly result (page_numbers pages_used (min 1 count) words)
unfolding page_numbers
first_there pages_used count i words numbers result all enough = elim (cases_lt 0 count) [
  | inr none ↦
      let zero_is : min 1 count ≡ 0 = omega arith in
      rw zero_is tt
  | inl some ↦
      let one_is : min 1 count ≡ 1 = omega arith in
      let here = first_of_all (page_number pages_used words) i numbers (omega arith) all in
      rw (one_is, here.1) tt
]

pub first_refused : (X : Type 0) (pages_used count i : ℕ) (words numbers : List ℕ) (e : Error) → i < count
    → values_of_all (map (page_number pages_used words) (range_with_len 0 i)) ≡ Ok numbers
    → page_number pages_used words i ≡ Err (refusal_of e)
    → RefusesExactly (let r : Result X Error = Err e in r) (page_numbers pages_used (min 1 count) words)
unfolding page_numbers
first_refused X pages_used count zero words numbers e within all here =
    let one_is : min 1 count ≡ 1 = omega arith in
    rw (one_is, here) refl
first_refused X pages_used count (suc i) words numbers e within all here =
    let r : Result X Error = Err e in first_there pages_used count (suc i) words numbers r all (omega arith)
