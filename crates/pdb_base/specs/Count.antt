-- A count of calls, which stays at 2^64 - 1, the largest number of 64 bits, once it is there.
use Rattle.std.specs.Prelude.{ℕ, zero, suc, ◌+◌, ◌-◌, ◌^◌, min}
use Rattle.pdb_base.specs.declared.count.Count.{Count}

-- the number of calls that were counted
abbrev pub calls_of : Count → ℕ
calls_of count = count.calls

-- the count after one more call
abbrev pub one_more : ℕ → ℕ
one_more n = min (n + 1) (2 ^ 64 - 1)

-- the count after `more` further calls, each of which adds one unless the count is at its largest
abbrev pub after_calls : ℕ → ℕ → ℕ
after_calls zero calls = calls
after_calls (suc more) calls = one_more (after_calls more calls)
