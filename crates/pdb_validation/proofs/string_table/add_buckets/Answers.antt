use Rattle.std.proofs.Common.{◌≡◌, ◌+◌, ◌*◌, refl, sym, ap, ◌∙◌, arith}
use Rattle.pdb_validation.specs.StringTable.{bucket_byte, bucket_mismatch, full_from, names_in_buckets}
use Rattle.pdb_validation.specs.Words.{mismatches_at}
use Rattle.pdb_validation.proofs.BucketLemmas.{bucket_told}
use Rattle.pdb_validation.proofs.NamesBeforeLemmas.{before_more, before_none}
use Rattle.pdb_validation.proofs.PlaceLemmas.{names_one, names_same, places_more}
use Rattle.pdb_validation.proofs.string_table.add_buckets.Goals as goal
use Rattle.pdb_validation.proofs.string_table.add_buckets.Goals.{then-offset-ne0, else-offset-ne0}

pub loop-place-init : goal.loop-place-init
unfolding names_in_buckets mismatches_at
loop-place-init c = record {
  names = refl;
  few = omega arith;
  before = before_none c.args.stream.now _ refl
      (c.full_from-last.ensures ∙ ap (full_from c.args.stream.now) c.requires.count) refl;
  mismatches = refl;
}

pub loop-place-preserved : goal.loop-place-preserved
loop-place-preserved c =
    let stream = c.args.stream.now in
    let place = c.loop-place.place in
    let at : c.buckets_byte-first.result + 4 + 4 * place ≡ bucket_byte stream place =
    rw c.buckets_byte-first.ensures.byte refl in
    let is = rw at at c.word_at-offset.ensures in
    let here = c.loop-place.invariant in
    record {
      names = elim c.if-offset-ne0.branch [
        | then-offset-ne0 w ↦
            let more = names_one stream place (λ none. w.if-offset-ne0.true (is ∙ none)) in
            omega (arith, w.names-is, more, here.names)
        | else-offset-ne0 w ↦
            let same = names_same stream place (sym is ∙ w.if-offset-ne0.false) in
            omega (arith, w.names-is, same, here.names)
      ];
      few = elim c.if-offset-ne0.branch [
        | then-offset-ne0 w ↦ omega (arith, w.names-is, here.few)
        | else-offset-ne0 w ↦ omega (arith, w.names-is, here.few)
      ];
      before = c.with_bucket-before.ensures
          ∙ before_more stream place _ _ _ here.before is c.check_name-what.ensures.taken;
      mismatches = places_more c.args.extent (bucket_mismatch c.args.number stream) place _ _ _ _ here.mismatches
          (bucket_told c.args.number stream place _ _ _ _ _ at c.word_at-offset.ensures here.before
          c.check_name-what.ensures.what c.found_at.ensures)
          c.in_ok-add.ensures;
    }
