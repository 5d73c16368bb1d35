-- The order in which definitions can be declared.
use Rattle.std.specs.Prelude.{◌≡◌, ◌⊎◌, ℕ, List, [], ◌∷◌, ◌++◌, Ok}
use Rattle.std.specs.List.{All, Contains}
use Rattle.pdb_base.specs.Answer.{Answer}
use Rattle.pdb_types.specs.Needs.{numbers}
use Rattle.pdb_types.specs.declared.declaration_order.DeclarationOrder.{DeclarationOrder}
use Rattle.pdb_types.specs.declared.declaration_order.DeclarationOrder.TheVariants.{Ordered, Cycle}

-- what each definition needs by value
abbrev pub Needs : Type 0
Needs = ℕ → Answer (List ℕ)

-- a definition needs another one
abbrev pub DoesNeed : Needs → ℕ → ℕ → Type 0
DoesNeed needs one other = (all : List ℕ) × (needs one ≡ Ok all) × Contains all other

-- a definition needs another one through others, of which each needs the next
abbrev pub Leads : Needs → ℕ → List ℕ → ℕ → Type 0
Leads needs one [] other = DoesNeed needs one other
Leads needs one (next ∷ way) other = DoesNeed needs one next × Leads needs next way other

-- a definition is a root, or a root needs it, directly or through others
abbrev pub IsRequired : Needs → List ℕ → ℕ → Type 0
IsRequired needs roots one =
    Contains roots one ⊎ ((root : ℕ) × Contains roots root × (way : List ℕ) × Leads needs root way one)

-- each definition that one needs has a property
abbrev pub EachNeed : Needs → ℕ → (ℕ → Type 0) → Type 0
EachNeed needs one P = (all : List ℕ) × (needs one ≡ Ok all) × All P all

-- Definitions are in an order in which they can be declared: each root is there; none is there twice, or without being
-- a root or needed by one; and all that one needs stands before it.
pub record IsOrder (needs : Needs) (roots order : List ℕ) : Type 0 where
  pub complete : All (Contains order) roots
  pub once : (before after : List ℕ) (one : ℕ) → order ≡ before ++ one ∷ after → ¬ Contains before one
  pub reached : All (IsRequired needs roots) order
  pub behind : (before after : List ℕ) (one : ℕ) → order ≡ before ++ one ∷ after → EachNeed needs one (Contains before)

-- Definitions are a cycle: each needs the next one, and the last one needs the first, which is a root or needed by one.
pub record IsCycle (needs : Needs) (roots cycle : List ℕ) : Type 0 where
  pub first : ℕ
  pub others : List ℕ
  pub are : cycle ≡ first ∷ others
  pub leads : Leads needs first others first
  pub reached : IsRequired needs roots first

-- an answer is an order of what the roots need, or a cycle among that
abbrev pub IsOrderOf : Needs → List ℕ → DeclarationOrder → Type 0
IsOrderOf needs roots (Ordered order) = IsOrder needs roots (numbers order.items)
IsOrderOf needs roots (Cycle cycle) = IsCycle needs roots (numbers cycle.items)
