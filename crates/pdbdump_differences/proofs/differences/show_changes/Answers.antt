use Rattle.pdbdump_differences.proofs.ComparedLemmas.{compared_then, none_yet}
use Rattle.pdbdump_differences.proofs.differences.show_changes.Goals as goal

pub loop-number-init : goal.loop-number-init
loop-number-init g c = none_yet _ _ _

pub loop-number-preserved : goal.loop-number-preserved
loop-number-preserved g c =
    compared_then _ _ _ _ _ _ _ _ _ c.loop-number.invariant (record {
      silent = c.in_ok-write_change.ensures.silent;
      accounted = c.in_ok-write_change.ensures.accounted;
    })

pub returns-then-is_spent : goal.returns-then-is_spent
returns-then-is_spent g c =
    compared_then _ _ _ _ _ _ _ _ _ c.loop-number.invariant (record {
      silent = c.in_ok-write_change.ensures.silent;
      accounted = c.in_ok-write_change.ensures.accounted;
    })
