-- What was reported so far is accounted for, and nothing was shown.
use Rattle.std.specs.Prelude.{◌≡◌}
use Rattle.pdbdump_types.specs.Shown.{StaysAccounted}
use Rattle.pdbdump_differences.proofs.differences.tell_unknown.Given as goal

abbrev pub invariant-loop-name : goal.invariant-loop-name
invariant-loop-name g l =
    StaysAccounted l.fn.progress l.progress l.fn.err l.err × (l.progress.has_shown ≡ l.fn.progress.has_shown)
