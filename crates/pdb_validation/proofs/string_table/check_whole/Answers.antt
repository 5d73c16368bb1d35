use Rattle.pdb_validation.proofs.BucketLemmas.{buckets_told}
use Rattle.pdb_validation.proofs.string_table.check_whole.Goals as goal

pub returns : goal.returns
returns c =
    buckets_told c.args.extent c.args.number c.args.stream.now c.buckets_byte-buckets.result c.word_at-count.result
    c.word_at-stored.result _ _ _ _ _ c.buckets_byte-buckets.ensures.byte c.word_at-count.ensures
    c.new-mismatches.ensures.items c.in_ok-names.ensures.mismatches c.in_ok-names.ensures.names c.word_at-stored.ensures
    c.count_mismatch.ensures c.in_ok-add.ensures
