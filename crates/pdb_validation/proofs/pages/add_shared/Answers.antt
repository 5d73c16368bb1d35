use Rattle.std.proofs.Common.{[], refl}
use Rattle.std.proofs.lemmas.List.{at_drop_all}
use Rattle.pdb_validation.specs.Pages.{shared_pages}
use Rattle.pdb_validation.proofs.MismatchLemmas.{further_end}
use Rattle.pdb_validation.proofs.PageLemmas.{marked_more, marked_none, shared_more}
use Rattle.pdb_validation.proofs.pages.add_shared.Goals as goal

pub loop-owner-init : goal.loop-owner-init
loop-owner-init c = ([], marked_none _ _ (c.in_ok-owned.ensures.items_if_clones_equal (λ y is. is)), refl)

pub loop-owner-preserved : goal.loop-owner-preserved
loop-owner-preserved c =
    let before = c.loop-owner.invariant in (
      _,
      marked_more _ before.0 _ _ _ before.1 c.mark-marked.ensures.after,
      shared_more _ _ _ c.loop-owner.owner-index before.0 _ _ _ _ _ _ _ _ _ _ c.loop-owner-test.true before.1 before.2
          c.mark-marked.ensures.before c.is_owned-is_shared.ensures c.at_page-shared.ensures c.then_some.ensures
          c.in_ok-add.ensures,
    )

pub returns : goal.returns
returns c =
    let before = c.loop-owner.invariant in
    further_end _ _ _ _ before.2
    (at_drop_all (shared_pages c.args.page_size c.args.count before.0) c.args.owners.now _ c.loop-owner-test.false)
