-- What was written and reported so far is accounted for.
use Rattle.pdbdump_differences.specs.Compared.{Compares}
use Rattle.pdbdump_differences.proofs.differences.show_changes.Given as goal

abbrev pub invariant-loop-number : goal.invariant-loop-number
invariant-loop-number g l = Compares l.fn.progress l.progress l.fn.out l.out l.fn.err l.err
