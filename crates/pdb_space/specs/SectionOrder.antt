-- The partial order of places: what `PartialOrd` demands of `order_within_section`.
use Rattle.std.specs.Prelude.{◌≡◌, Bool, true, ◌==◌, ◌&&◌, Some}
use Rattle.std.proofs.Common.{arith}
use Rattle.std.proofs.lemmas.Bool.Decides.{nat_tests}
use Rattle.std.specs.declared.cmp.Ordering.TheVariants.{Less, Equal}
use Rattle.std.specs.Bool.{Decides}
use Rattle.std.specs.Option.{option_map}
use Rattle.std.specs.Ordering.{ordering_reverse}
use Rattle.std.specs.Cmp.{IsPartialOrder}
use Rattle.pdb_space.specs.SectionPlace.{SectionPlace, order_within_section}

-- whether two places have the same offset in the same section
abbrev pub same_place : SectionPlace → SectionPlace → Bool
same_place a b = a.offset == b.offset && a.section == b.section

antisymm_order : (x y : SectionPlace) → order_within_section x y
    ≡ option_map ordering_reverse (order_within_section y x)
antisymm_order x y = grind (arith, nat_tests)

trans_order : (x y z : SectionPlace) → order_within_section x y ≡ Some Less → order_within_section y z ≡ Some Less
    → order_within_section x z ≡ Some Less
trans_order x y z below above = grind (arith, nat_tests)

equal_places : (x y : SectionPlace) → Decides (same_place x y) (order_within_section x y ≡ Some Equal)
equal_places x y = (λ same. grind (arith, nat_tests), λ equal. grind (arith, nat_tests))

same_order : (x y z : SectionPlace) → same_place x y ≡ true → order_within_section x z ≡ order_within_section y z
same_order x y z same = grind (arith, nat_tests)

-- The order within a section is a partial order, in which only the same places are equal.
pub is_partial_order : IsPartialOrder same_place order_within_section
is_partial_order = record {
  antisymm = antisymm_order;
  trans = trans_order;
  matches_eq = equal_places;
  congr =
      same_order;
}
