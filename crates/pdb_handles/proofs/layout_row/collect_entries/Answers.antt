use Rattle.std.proofs.Common.{arith}
use Rattle.pdb_handles.proofs.LayoutRowLemmas.{gaps_order, gaps_within}
use Rattle.pdb_handles.proofs.layout_row.collect_entries.Goals as goal

pub push_gaps-requires-clause-order : goal.push_gaps-requires-clause-order
push_gaps-requires-clause-order c = gaps_order _ _ _ _ _ c.requires c.deref-2.ensures.value

pub push_gaps-requires-clause-within : goal.push_gaps-requires-clause-within
push_gaps-requires-clause-within c =
    gaps_within _ _ _ _ _ c.requires c.deref-2.ensures.value (omega arith)
