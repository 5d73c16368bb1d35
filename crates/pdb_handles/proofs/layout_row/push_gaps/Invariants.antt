use Rattle.std.proofs.Common.{◌≡◌, ◌++◌, map, take}
use Rattle.pdb_handles.specs.LayoutRow.{gap_entry}
use Rattle.pdb_handles.proofs.layout_row.push_gaps.Given as goal

abbrev pub invariant-loop-gap : goal.invariant-loop-gap
invariant-loop-gap l = l.rows.items ≡ l.fn.rows.items ++ map gap_entry (take l.gap-index l.gaps)
