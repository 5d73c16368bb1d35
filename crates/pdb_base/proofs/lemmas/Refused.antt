-- What a refused call answers, where its caller passes the refusal on by `?`.
use Rattle.std.specs.Prelude.{◌≡◌, Result, Ok, Err, IsErrAnd}
use Rattle.std.proofs.Common.{ap}
use Rattle.pdb_base.specs.declared.error.Error.{Error}

-- the refusal that is passed on
pub passed_on : {X : Type 0} (result : Result X Error) (cause : Error) → IsErrAnd result (λ e. e ≡ cause)
    → result ≡ Err cause
passed_on (Ok x) cause h = absurd h
passed_on (Err e) cause h = ap (λ (d : Error). Err d) h
