use Rattle.std.proofs.Common.{ap}
use denote.Enum.Bare.{sameb, same_true, true_same}
use Rattle.pdb_base.specs.Derived.{TellsApart}
use Rattle.pdb_base.proofs.lemmas.Derived.{both, options}
use Rattle.pdb_values.specs.declared.primitive.PrimitiveType.{PrimitiveType}
use Rattle.pdb_values.specs.contracts.primitive.PrimitiveKind.{the_type}
use Rattle.pdb_values.specs.contracts.primitive.Indirection as indirection
use Rattle.pdb_values.proofs.laws.derived.primitives.Goals as goal

kinds : TellsApart (sameb the_type)
kinds a b = (same_true the_type tt a b, true_same the_type a b)

indirections : TellsApart (sameb indirection.the_type)
indirections a b = (same_true indirection.the_type tt a b, true_same indirection.the_type a b)

pub returns-clause-types : goal.returns-clause-types
returns-clause-types c a b =
    let fields = both _ _ (kinds a.kind b.kind)
    (options (sameb indirection.the_type) indirections a.indirection b.indirection) in (
      λ holds. let same = fields.0 holds in λ i. record { kind = same.0 i; indirection = same.1 i },
      λ is. fields.1 (ap (λ (x : PrimitiveType). x.kind) is, ap (λ (x : PrimitiveType). x.indirection) is),
    )
