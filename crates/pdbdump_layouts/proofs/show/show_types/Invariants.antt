-- What was reported so far is accounted for.
use Rattle.pdbdump_types.specs.Shown.{StaysAccounted}
use Rattle.pdbdump_layouts.proofs.show.show_types.Given as goal

abbrev pub invariant-loop-index : goal.invariant-loop-index
invariant-loop-index g l = StaysAccounted l.fn.progress l.progress l.fn.err l.err
