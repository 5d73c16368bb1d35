use Rattle.std.proofs.Common.{Some, None, refl, ap}
use Rattle.std.specs.Prelude.{nat_eq}
use Rattle.std.specs.Option.{option_eq, option_map}
use Rattle.std.specs.Cmp.{unsigned_Decides}
use Rattle.std.specs.Cmp.Lexicographic.{pointwise, bytes_decides}
use denote.Enum.Bare.{sameb, same_true, true_same}
use Rattle.pdb_base.specs.declared.raw_string.RawString.{RawString}
use Rattle.pdb_base.specs.Derived.{TellsApart}
use Rattle.pdb_base.proofs.lemmas.Derived.{both, options}
use Rattle.pdb_values.specs.Text.{text_bytes}
use Rattle.pdb_values.specs.Class.{ClassValue}
use Rattle.pdb_values.specs.Derived.{TellsApartBy}
use Rattle.pdb_values.specs.contracts.class.ClassKind.{the_type}
use Rattle.pdb_values.proofs.lemmas.Derived.{type_indexes}
use Rattle.pdb_values.proofs.laws.derived.named_types.Goals as goal

kinds : TellsApart (sameb the_type)
kinds a b = (same_true the_type tt a b, true_same the_type a b)

names : TellsApartBy text_bytes (λ (a b : RawString). pointwise nat_eq a.0.now b.0.now)
names a b = bytes_decides a.0.now b.0.now

unique_names : TellsApartBy (option_map text_bytes) (option_eq (λ (a b : RawString). pointwise nat_eq a.0.now b.0.now))
unique_names None None = (λ holds. refl, λ is. refl)
unique_names None (Some b) = (λ holds. absurd cc, λ is. absurd cc)
unique_names (Some a) None = (λ holds. absurd cc, λ is. absurd cc)
unique_names (Some a) (Some b) = (λ holds. ap Some ((names a b).0 holds), λ is. (names a b).1 cc)

pub returns-clause-classes : goal.returns-clause-classes
returns-clause-classes c a b =
    let fields = both _ _ (kinds a.kind b.kind)
    (both _ _ (unsigned_Decides a.count b.count)
    (both _ _ (unsigned_Decides a.properties b.properties)
    (both _ _ (options _ type_indexes a.fields b.fields)
    (both _ _ (options _ type_indexes a.derived_from b.derived_from)
    (both _ _ (options _ type_indexes a.vtable_shape b.vtable_shape)
    (both _ _ (unsigned_Decides a.size b.size)
    (both _ _ (names a.name b.name) (unique_names a.unique_name b.unique_name)))))))) in (
      λ holds. let same = fields.0 holds in λ i. record {
        kind = same.0 i;
        count = same.1.0 i;
        properties = same.1.1.0 i;
        fields = same.1.1.1.0 i;
        derived_from = same.1.1.1.1.0 i;
        vtable_shape = same.1.1.1.1.1.0 i;
        size = same.1.1.1.1.1.1.0 i;
        name = same.1.1.1.1.1.1.1.0 i;
        unique_name = same.1.1.1.1.1.1.1.1 i;
      },
      λ is. fields.1 (
        ap (λ (x : ClassValue). x.kind) is,
        (
          ap (λ (x : ClassValue). x.count) is,
          (
            ap (λ (x : ClassValue). x.properties) is,
            (
              ap (λ (x : ClassValue). x.fields) is,
              (
                ap (λ (x : ClassValue). x.derived_from) is,
                (
                  ap (λ (x : ClassValue). x.vtable_shape) is,
                  (
                    ap (λ (x : ClassValue). x.size) is,
                    (
                      ap (λ (x : ClassValue). x.name) is,
                      ap (λ (x : ClassValue). x.unique_name) is,
                    ),
                  ),
                ),
              ),
            ),
          ),
        ),
      ),
    )
