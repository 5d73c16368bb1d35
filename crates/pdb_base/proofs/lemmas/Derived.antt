-- Tests that decide whether two values are one, and what is made of them.
use Rattle.std.proofs.Common.{◌↔◌, Bool, true, false, ◌&&◌, Some, None, IsTrue, refl, ap}
use Rattle.std.specs.Option.{option_eq}
use Rattle.pdb_base.specs.Derived.{TellsApart}

-- two tests, one after the other, hold just where both do
pub both : {P Q : Type 0} (p q : Bool) → IsTrue p ↔ P → IsTrue q ↔ Q → IsTrue (p && q) ↔ (P × Q)
both true q first second = (λ holds. (first.0 refl, second.0 holds), λ holds. second.1 holds.1)
both false q first second = (λ holds. absurd cc, λ holds. first.1 holds.0)

-- a value that may be missing is told apart as the value is
pub options : {A : Type 0} (eq : A → A → Bool) → TellsApart eq → TellsApart (option_eq eq)
options eq same None None = (λ holds. refl, λ is. refl)
options eq same None (Some y) = (λ holds. absurd cc, λ is. absurd cc)
options eq same (Some x) None = (λ holds. absurd cc, λ is. absurd cc)
options eq same (Some x) (Some y) = (λ holds. ap Some ((same x y).0 holds), λ is. (same x y).1 cc)
