-- What a call returns for bytes to which a grammar assigns at most one value.
use Rattle.std.specs.Prelude.{◌≡◌, ◌⊎◌, ℕ, List, Result, Ok, Err}
use Rattle.pdb_base.specs.declared.error.Error.{Error}
use Rattle.pdb_base.specs.declared.error.Error.TheVariants.{OutOfMemory}
use Rattle.pdb_base.specs.Refusal.{Refusal, refusal_of}

-- The call returns a value that `view` maps to one that the grammar assigns to the bytes, whatever is
-- left behind it; or it fails with a refusal that the grammar gives; or it fails because memory was
-- refused.
abbrev pub SaysAssigned : {X Y : Type 0} → (X → Y) → (Y → List ℕ → Type 0) → (Refusal → Type 0) → Result X Error
    → Type 0
SaysAssigned view Is No (Ok x) = (rest : List ℕ) × Is (view x) rest
SaysAssigned view Is No (Err e) = No (refusal_of e) ⊎ (e ≡ OutOfMemory)

-- the call returns a value that `view` maps to this one, or fails because memory ran out
abbrev pub ShowsOrLacks : {X Y : Type 0} → (X → Y) → Y → Result X Error → Type 0
ShowsOrLacks view value (Ok x) = view x ≡ value
ShowsOrLacks view value (Err e) = e ≡ OutOfMemory

-- the call fails with this refusal, or because memory ran out
abbrev pub RefusesOrLacks : {X : Type 0} → Refusal → Result X Error → Type 0
RefusesOrLacks refusal (Ok x) = ⊥
RefusesOrLacks refusal (Err e) = (refusal_of e ≡ refusal) ⊎ (e ≡ OutOfMemory)
