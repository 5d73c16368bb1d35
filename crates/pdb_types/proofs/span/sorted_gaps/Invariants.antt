use Rattle.pdb_types.proofs.SpanLemmas.{AreGapsTo}
use Rattle.pdb_types.proofs.span.sorted_gaps.Given as goal

abbrev pub invariant-loop-span : goal.invariant-loop-span
invariant-loop-span l = AreGapsTo l.spans l.end l.span-index l.at l.gaps.items
