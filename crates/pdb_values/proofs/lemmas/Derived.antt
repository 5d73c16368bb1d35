-- Indexes and names are told apart by their numbers and bytes, and lists as their items are.
use Rattle.std.proofs.Common.{◌≡◌, ◌↔◌, Bool, List, IsTrue, ap}
use Rattle.std.specs.Prelude.{nat_eq}
use Rattle.std.specs.Cmp.{unsigned_Decides}
use Rattle.std.specs.Cmp.Lexicographic.{pointwise, pointwise_decides}
use Rattle.pdb_base.specs.declared.index.TypeIndex.{TypeIndex}
use Rattle.pdb_base.specs.Derived.{TellsApart}

pub type_indexes : TellsApart (λ (a b : TypeIndex). nat_eq a.0 b.0)
type_indexes a b =
    let numbers = unsigned_Decides a.0 b.0 in (
      λ holds. let same = numbers.0 holds in λ i. record { 0 = same i },
      λ is. numbers.1 (ap (λ (x : TypeIndex). x.0) is),
    )

pub lists : {A : Type 0} (eq : A → A → Bool) → TellsApart eq → (xs ys : List A) →
    IsTrue (pointwise eq xs ys) ↔ (xs ≡ ys)
lists eq same = pointwise_decides same
