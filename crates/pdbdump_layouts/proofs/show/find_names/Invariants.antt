-- What was reported so far is accounted for.
use Rattle.pdbdump_types.specs.Shown.{StaysAccounted}
use Rattle.pdbdump_layouts.proofs.show.find_names.Given as goal

abbrev pub invariant-loop-name : goal.invariant-loop-name
invariant-loop-name g l = StaysAccounted l.fn.progress l.progress l.fn.err l.err
