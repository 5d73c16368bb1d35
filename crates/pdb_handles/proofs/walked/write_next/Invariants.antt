-- The records so far are written.
use Rattle.pdb_handles.proofs.WalkedLemmas.{IsWrittenTo}
use Rattle.pdb_handles.proofs.walked.write_next.Given as goal

abbrev pub invariant-loop-at : goal.invariant-loop-at
invariant-loop-at l = IsWrittenTo l.fn.rows l.rows l.fn.records l.at l.records
