-- When calls may fail for lack of memory.
use Rattle.std.specs.Prelude.{◌≡◌, ⊤, List, [], ◌∷◌, Result, Err, IfErr}
use Rattle.pdb_base.specs.declared.error.Error.{Error}
use Rattle.pdb_base.specs.declared.error.Error.TheVariants.{OutOfMemory}

-- A call fails only with `OutOfMemory`.
abbrev pub FailsOnlyForMemory : {X : Type 0} → Result X Error → Type 0
FailsOnlyForMemory result = IfErr result (λ e. e ≡ OutOfMemory)

-- A call fails with `OutOfMemory` only if memory is needed.
abbrev pub LacksOnlyIf : {X : Type 0} → Result X Error → Type 0 → Type 0
LacksOnlyIf result needed = result ≡ Err OutOfMemory → needed

-- The list has at least one item.
abbrev pub HasItem : {A : Type 0} → List A → Type 0
HasItem [] = ⊥
HasItem (x ∷ xs) = ⊤
