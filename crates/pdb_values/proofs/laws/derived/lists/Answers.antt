use Rattle.std.proofs.Common.{ap}
use Rattle.std.specs.Prelude.{nat_eq}
use Rattle.std.specs.Cmp.{unsigned_Decides}
use Rattle.pdb_base.specs.declared.index.TypeIndex.{TypeIndex}
use Rattle.pdb_base.specs.Derived.{TellsApart}
use Rattle.pdb_base.proofs.lemmas.Derived.{both, options}
use Rattle.pdb_values.specs.declared.method.MethodListEntry.{MethodListEntry}
use Rattle.pdb_values.specs.contracts.method.MethodListEntryPartialEq.TheImpl.{eq-value}
use Rattle.pdb_values.proofs.lemmas.Derived.{lists, type_indexes}
use Rattle.pdb_values.proofs.laws.derived.lists.Goals as goal

entries : TellsApart eq-value.it
entries a b =
    let fields = both _ _ (unsigned_Decides a.attributes b.attributes)
    (both _ _ (type_indexes a.method_type b.method_type)
    (options _ unsigned_Decides a.vtable_offset b.vtable_offset)) in (
      λ holds. let same = fields.0 holds in λ i. record {
        attributes = same.0 i;
        method_type = same.1.0 i;
        vtable_offset = same.1.1 i;
      },
      λ is. fields.1 (
        ap (λ (x : MethodListEntry). x.attributes) is,
        (ap (λ (x : MethodListEntry). x.method_type) is, ap (λ (x : MethodListEntry). x.vtable_offset) is),
      ),
    )

pub returns-clause-methods : goal.returns-clause-methods
returns-clause-methods c a b = lists _ entries a.methods.items b.methods.items
