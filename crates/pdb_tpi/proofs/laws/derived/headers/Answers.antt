use Rattle.std.specs.Cmp.{unsigned_Decides}
use Rattle.pdb_base.proofs.lemmas.Derived.{both}
use Rattle.pdb_tpi.proofs.DerivedLemmas.{slices}
use Rattle.pdb_tpi.proofs.laws.derived.headers.Goals as goal

pub returns-clause-equal : goal.returns-clause-equal
returns-clause-equal c a b =
    let fields = both _ _ (unsigned_Decides a.version b.version)
    (both _ _ (unsigned_Decides a.header_size b.header_size)
    (both _ _ (unsigned_Decides a.minimum_index b.minimum_index)
    (both _ _ (unsigned_Decides a.maximum_index b.maximum_index)
    (both _ _ (unsigned_Decides a.gprec_size b.gprec_size)
    (both _ _ (unsigned_Decides a.tpi_hash_stream b.tpi_hash_stream)
    (both _ _ (unsigned_Decides a.tpi_hash_pad_stream b.tpi_hash_pad_stream)
    (both _ _ (unsigned_Decides a.hash_key_size b.hash_key_size)
    (both _ _ (unsigned_Decides a.hash_bucket_size b.hash_bucket_size)
    (both _ _ (slices a.hash_values b.hash_values)
    (both _ _ (slices a.ti_off b.ti_off) (slices a.hash_adj b.hash_adj))))))))))) in (
      λ holds. let same = fields.0 holds in λ i. record {
        version = same.0 i;
        header_size = same.1.0 i;
        minimum_index = same.1.1.0 i;
        maximum_index = same.1.1.1.0 i;
        gprec_size = same.1.1.1.1.0 i;
        tpi_hash_stream = same.1.1.1.1.1.0 i;
        tpi_hash_pad_stream = same.1.1.1.1.1.1.0 i;
        hash_key_size = same.1.1.1.1.1.1.1.0 i;
        hash_bucket_size = same.1.1.1.1.1.1.1.1.0 i;
        hash_values = same.1.1.1.1.1.1.1.1.1.0 i;
        ti_off = same.1.1.1.1.1.1.1.1.1.1.0 i;
        hash_adj = same.1.1.1.1.1.1.1.1.1.1.1 i;
      },
      λ is. fields.1 (cc, (cc, (cc, (cc, (cc, (cc, (cc, (cc, (cc, (cc, (cc, cc))))))))))),
    )
