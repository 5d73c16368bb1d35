use Rattle.std.proofs.Common.{refl}
use Rattle.pdbdump_differences.proofs.ComparedLemmas.{compared_then, finished, told_only}
use Rattle.pdbdump_differences.proofs.differences.show_differences.Goals as goal

pub returns : goal.returns
returns g c =
    let told = told_only c.new-progress.result c.tell_missing.new.progress c.args.out.now _ _
    c.in_ok-tell_missing.ensures.accounted c.in_ok-tell_missing.ensures.shown in
    let changed = compared_then c.new-progress.result c.tell_missing.new.progress c.show_changes.new.progress
    _ _ _ _ _ _ told c.in_ok-show_changes.ensures in
    let all = compared_then c.new-progress.result c.show_changes.new.progress c.show_arrivals.new.progress
    _ _ _ _ _ _ changed c.in_ok-show_arrivals.ensures in
    rw c.outcome_of.ensures (finished _ _ _ _ _ _ (all.silent c.args.out.now (rw c.new-progress.ensures.shown refl))
    (all.accounted c.args.err.now (rw c.new-progress.ensures.whole refl)))
