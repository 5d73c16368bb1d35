use Rattle.std.proofs.Common.{◌≡◌, drop, max}
use Rattle.pdb_types.specs.Gap.{greatest_end}
use Rattle.pdb_types.proofs.gap.end_of.Given as goal

abbrev pub invariant-loop-span : goal.invariant-loop-span
invariant-loop-span l = greatest_end l.spans ≡ max l.end (greatest_end (drop l.span-index l.spans))
