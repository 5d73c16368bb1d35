-- How many bytes calls request from a source, as a count that stays at 2^64 - 1 once it is there.
use Rattle.std.specs.Prelude.{◌≡◌, ℕ, ◌+◌, ◌-◌, ◌^◌, ◌≤◌, min, Result, Ok, Err}
use Rattle.pdb_base.specs.declared.error.Error.{Error}

-- the count after `more` was added to it, which is at most 2^64 - 1
abbrev pub raised_by : ℕ → ℕ → ℕ
raised_by more count = min (count + more) (2 ^ 64 - 1)

-- The call requests `bytes` bytes if it succeeds, and at most as many if it fails. The count is
-- `old` before it and `new` after it.
abbrev pub Asks : {X : Type 0} → ℕ → ℕ → ℕ → Result X Error → Type 0
Asks old new bytes (Ok x) = new ≡ raised_by bytes old
Asks old new bytes (Err e) = (old ≤ new) × (new ≤ old + bytes)
