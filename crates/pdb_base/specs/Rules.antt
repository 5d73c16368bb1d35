-- Rules in a fixed order, of which the first that refuses decides.
use Rattle.std.specs.Prelude.{◌≡◌, ◌⊎◌, ◌↔◌, ℕ, List, [], ◌∷◌, ◌++◌, Ok, Err}
use Rattle.pdb_base.specs.Refusal.{Refusal}
use Rattle.pdb_base.specs.Answer.{Answer}

-- a rule: the refusals that it gives, which are none if it is kept
abbrev pub Rule : Type 1
Rule = Refusal → Type 0

infix 0 ◌⇒◌
-- the rule that gives this refusal if the condition holds
abbrev pub ◌⇒◌ : Type 0 → Refusal → Rule
(condition ⇒ refusal) given = condition × (given ≡ refusal)

-- No rule of the list gives a refusal.
abbrev pub NoneRefuses : List Rule → Type 0
NoneRefuses [] = Unit {0}
NoneRefuses (rule ∷ rules) = ((refusal : Refusal) → ¬ rule refusal) × NoneRefuses rules

-- the refusal of the first rule of the list that gives one
abbrev pub FirstRefuses : List Rule → Refusal → Type 0
FirstRefuses [] refusal = ⊥
FirstRefuses (rule ∷ rules) refusal = rule refusal ⊎ (((other : Refusal) → ¬ rule other) × FirstRefuses rules refusal)

-- the rules for each number of a list, in order
abbrev pub rules_of_each : List ℕ → (ℕ → List Rule) → List Rule
rules_of_each [] rules = []
rules_of_each (number ∷ numbers) rules = rules number ++ rules_of_each numbers rules

-- the rule that consists of the rules for what a relation assigns: it gives the refusal of the first of them
abbrev pub rule_of : {A : Type 0} → (A → Type 0) → (A → List Rule) → Rule
rule_of {A} Is rules refusal = (value : A) × Is value × FirstRefuses (rules value) refusal

-- An answer keeps to rules. It is a refusal if and only if that is the one of the first rule that refuses, and
-- a value if and only if none refuses and `Is` holds of the value.
pub record FollowsRules {A : Type 0} (rules : List Rule) (Is : A → Type 0) (answer : Answer A) : Type 0 where
  pub refused : (refusal : Refusal) → (answer ≡ Err refusal) ↔ FirstRefuses rules refusal
  pub value : (x : A) → (answer ≡ Ok x) ↔ (NoneRefuses rules × Is x)
