-- Headers and slices are told apart by their fields.
use Rattle.std.proofs.Common.{ap}
use Rattle.std.specs.Cmp.{signed_Decides, unsigned_Decides}
use Rattle.pdb_base.specs.Derived.{TellsApart}
use Rattle.pdb_base.proofs.lemmas.Derived.{both}
use Rattle.pdb_tpi.specs.declared.header.Slice.{Slice}
use Rattle.std.specs.Prelude.{◌&&◌, nat_eq}
use Rattle.std.specs.Ordering.{int_eq}

pub slices : TellsApart (λ (a b : Slice). int_eq a.offset b.offset && nat_eq a.size b.size)
slices a b =
    let fields = both _ _ (signed_Decides a.offset b.offset) (unsigned_Decides a.size b.size) in (
      λ holds. let same = fields.0 holds in λ i. record { offset = same.0 i; size = same.1 i },
      λ is. fields.1 (ap (λ (x : Slice). x.offset) is, ap (λ (x : Slice). x.size) is),
    )
