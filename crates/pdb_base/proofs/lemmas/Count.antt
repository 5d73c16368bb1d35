-- A count after calls.
use Rattle.std.proofs.Common.{◌≡◌, ℕ, zero, suc, add-one, ◌+◌, ◌-◌, ◌^◌, ◌≤◌, ◌<◌, min, sym, ap, ◌∙◌, arith}
use Rattle.pdb_base.specs.Count.{one_more, after_calls}

-- one call after others
pub one_call : (calls more : ℕ) → one_more (after_calls more calls) ≡ after_calls (more + 1) calls
one_call calls more = ap (λ (n : ℕ). after_calls n calls) (sym (add-one more))

-- and one before others
pub call_before : (calls more : ℕ) → after_calls more (one_more calls) ≡ after_calls (more + 1) calls
call_before calls zero = one_call calls zero
call_before calls (suc more) =
    let one : more + 1 + 1 ≡ suc more + 1 = omega arith in
    ap one_more (call_before calls more) ∙ one_call calls (more + 1) ∙ ap (λ (n : ℕ). after_calls n calls) one

-- a count grows by no more than the calls
pub few_calls : (more calls : ℕ) → after_calls more calls ≤ calls + more
few_calls zero calls = omega arith
few_calls (suc more) calls = let ih = few_calls more calls in omega arith

-- as many as the calls, up to the largest number of 64 bits
pub calls_are : (more calls : ℕ) → calls < 2 ^ 64 → after_calls more calls ≡ min (calls + more) (2 ^ 64 - 1)
calls_are zero calls fits = omega arith
calls_are (suc more) calls fits = let ih = calls_are more calls fits in rw ih (omega arith)
