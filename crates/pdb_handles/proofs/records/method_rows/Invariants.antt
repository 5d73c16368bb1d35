use Rattle.std.proofs.Common.{◌≡◌, map, take}
use Rattle.pdb_handles.specs.Records.{method_info}
use Rattle.pdb_handles.proofs.records.method_rows.Given as goal

abbrev pub invariant-loop-method : goal.invariant-loop-method
invariant-loop-method l = l.rows.items ≡ map method_info (take l.method-index l.methods)
