use Rattle.std.proofs.Common.{arith, refl}
use Rattle.std.proofs.lemmas.Nat.{ones-le}
use Rattle.pdb_validation.specs.Information.{ones_from}
use Rattle.pdb_validation.proofs.FieldLemmas.{ones_more}
use Rattle.pdb_validation.proofs.information.ones_from.Goals as goal

pub loop-place-init : goal.loop-place-init
unfolding ones_from
loop-place-init c = record { ones = refl; few = omega arith }

pub loop-place-preserved : goal.loop-place-preserved
loop-place-preserved c =
    let here = c.loop-place.invariant in
    let more = ones_more c.args.stream.now c.args.byte c.loop-place.place in
    let word = c.word_at-word.ensures in
    let bits = ones-le 32 c.word_at-word.result c.word_at-word.type_inv in
    record {
      ones = rw (more, here.ones, word) refl;
      few = omega (arith, here.few, bits);
    }
