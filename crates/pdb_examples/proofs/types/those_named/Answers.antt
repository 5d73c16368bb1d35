use Rattle.std.proofs.Common.{sym, ◌∙◌, arith}
use Rattle.std.proofs.lemmas.List.{map-append, append-nil}
use Rattle.pdb_examples.proofs.TypeLemmas.{all_named, found_more, found_same, least_more, none_still}
use Rattle.pdb_examples.proofs.types.those_named.Goals as goal

pub loop-found-init : goal.loop-found-init
loop-found-init c = record {
  least = rw c.iter-items.ensures (omega arith);
  so_far = rw (c.iter-items.ensures, c.new-found.ensures.items) (all_named c.args.name.now c.args.types.now);
}

pub loop-found-preserved-in-Continue-branch-4 : goal.loop-found-preserved-in-Continue-branch-4
loop-found-preserved-in-Continue-branch-4 c =
    let step = rw c.in-Some.is at rw c.in_ok-item.was at c.next.ensures in
    record {
      least = least_more _ _ _ _ c.loop-found.invariant.least step;
      so_far = rw (c.push.ensures.items, c.in_ok-push.was, map-append, c.index.ensures)
          (found_more _ _ _ _ _ _ _ c.loop-found.invariant.least step c.loop-found.invariant.so_far
          (sym (rw c.in_ok-is_named.was at c.is_named.ensures) ∙ c.if-branch.true));
    }

pub loop-found-preserved : goal.loop-found-preserved
loop-found-preserved c =
    let step = rw c.in-Some.is at rw c.in_ok-item.was at c.next.ensures in
    record {
      least = least_more _ _ _ _ c.loop-found.invariant.least step;
      so_far = found_same _ _ _ _ _ _ _ c.loop-found.invariant.least step c.loop-found.invariant.so_far
          (sym (rw c.in_ok-is_named.was at c.is_named.ensures) ∙ c.if-branch.false);
    }

pub returns : goal.returns
returns c =
    let step = rw c.in_default.is at rw c.in_ok-item.was at c.next.ensures in
    let end = none_still _ c.args.name.now _ _ step in
    c.loop-found.invariant.so_far ∙ rw end (append-nil _)
