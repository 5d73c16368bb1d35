use Rattle.std.proofs.Common.{◌∙◌, sym, subst}
use Rattle.std.specs.Prelude.{IsTrue}
use Rattle.pdb_msf.proofs.lemmas.Kept.{kept_then}
use Rattle.pdb_validation.proofs.PageLemmas.{free_more}
use Rattle.pdb_validation.proofs.pages.add_free.Goals as goal

pub loop-owner-preserved : goal.loop-owner-preserved
loop-owner-preserved g c =
    let before = c.loop-owner.invariant in
    let next = c.in_ok-is_free.ensures in
    record {
      kept = kept_then _ _ _ before.kept next.free.kept;
      map = λ fixed.
          let still = subst IsTrue (sym before.kept.fixed) fixed in
          rw before.kept.bytes at next.map still;
      sized = next.sized ∙ before.sized;
      told = λ fixed.
          let still = subst IsTrue (sym before.kept.fixed) fixed in
          free_more _ _ _ c.loop-owner.owner-index _ _ _ _ _ _ _ _ _ _ c.loop-owner-test.true (before.told fixed)
          before.kept.bytes before.sized (next.free.answer still) c.at_page-page.ensures c.then_some.ensures
          c.in_ok-add.ensures;
    }
