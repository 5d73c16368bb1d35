-- What the steps of an iterator return one after another.
use Rattle.std.specs.Prelude.{◌≡◌, ◌≢◌, ◌⊎◌, ℕ, ◌+◌, ◌≤◌, List, [], ◌∷◌, length, slice_get, Option, Some, None, Result}
use Rattle.std.specs.Prelude.{Ok, Err, ⊤}
use Rattle.pdb_base.specs.declared.error.Error.{Error}
use Rattle.pdb_base.specs.Refusal.{refusal_of}
use Rattle.pdb_tpi.specs.Table.{Table}
use Rattle.pdb_tpi.specs.Walk.{fault_of}
use Rattle.pdb_tpi.specs.Steps.{WalkPosition, walk, walk_rest, IsStep}

-- the results of steps, each of which begins where the one before ended
abbrev pub AreSteps : {X : Type 0} → (X → ℕ × List ℕ) → WalkPosition → List (Result (Option X) Error) → Type 0
AreSteps seen stand [] = ⊤
AreSteps seen stand (result ∷ results) = (next : WalkPosition) × IsStep seen stand result next
    × AreSteps seen next results

-- where an iterator stands before the first item
abbrev pub first_stand : Table → WalkPosition
first_stand table = record { table = table; index = table.header.minimum_index }

-- A step returns item `n` of the walk, with its index.
pub record GivesItem {X : Type 0} (seen : X → ℕ × List ℕ) (table : Table) (n : ℕ)
    (result : Result (Option X) Error) : Type 0 where
  pub item : List ℕ
  pub in_walk : slice_get (walk table) n ≡ Some item
  pub given : X
  pub is : result ≡ Ok (Some given)
  pub same : seen given ≡ (table.header.minimum_index + n, item)

-- A step fails with the fault at which the walk stops.
pub record IsRefusedThere {X : Type 0} (table : Table) (result : Result (Option X) Error) : Type 0 where
  pub error : Error
  pub is : result ≡ Err error
  pub same : refusal_of error ≡ fault_of (walk_rest table)

-- Behind the items of the walk, a step returns None if no byte is left, and fails if there is one.
abbrev pub GivesRest : {X : Type 0} → Table → Result (Option X) Error → Type 0
GivesRest table result = ((walk_rest table ≡ []) × (result ≡ Ok None))
    ⊎ ((walk_rest table ≢ []) × IsRefusedThere table result)

-- the result of a step that comes after `n` others: item `n` of the walk, or what comes behind the items
abbrev pub IsAnswerAt : {X : Type 0} → (X → ℕ × List ℕ) → Table → ℕ → Result (Option X) Error → Type 0
IsAnswerAt seen table n result = GivesItem seen table n result ⊎ ((length (walk table) ≤ n) × GivesRest table result)
