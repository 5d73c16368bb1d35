use Rattle.std.proofs.Common.{refl, ◌∙◌}
use Rattle.pdb_tpi.proofs.FinderLemmas.{known_next}
use Rattle.pdb_tpi.proofs.finder.ItemFinder.update_all.Goals as goal

pub loop-iterator-preserved : goal.loop-iterator-preserved
loop-iterator-preserved g c =
    let at = c.loop-iterator.iterator-index in
    let next = known_next c.args.self.now.table c.args.self.now.known c.args.iterators.now at c.iterator-item.result
    c.loop-iterator-test.true in
    record {
      is = c.update.ensures.next ∙ rw (c.loop-iterator.invariant.is, c.iterator-item.is, next) refl;
      few = λ few. c.update.ensures.few;
    }
