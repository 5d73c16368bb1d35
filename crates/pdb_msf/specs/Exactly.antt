-- Refusals that a call returns even if it could run out of memory.
use Rattle.std.specs.Prelude.{◌≡◌, Result, Ok, Err, IsErrAnd}
use Rattle.pdb_base.specs.declared.error.Error.{Error}
use Rattle.pdb_base.specs.Refusal.{refusal_of}
use Rattle.pdb_base.specs.Answer.{Answer}

-- If a refusal is meant, the call fails with just that one, and not with `OutOfMemory` in its place.
abbrev pub RefusesExactly : {X A : Type 0} → Result X Error → Answer A → Type 0
RefusesExactly result (Ok meant) = Unit {0}
RefusesExactly result (Err refusal) = IsErrAnd result (λ e. refusal_of e ≡ refusal)
