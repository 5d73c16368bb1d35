use Rattle.std.proofs.Common.{◌≡◌, map, take}
use Rattle.pdb_validation.specs.Finding.{finding_view}
use Rattle.pdb_handles.specs.Findings.{finding_of}
use Rattle.pdb_handles.proofs.findings.findings_listed.Given as goal

abbrev pub invariant-loop-one : goal.invariant-loop-one
invariant-loop-one l = l.rows.items ≡ map (λ one. finding_of (finding_view one)) (take l.one-index l.found)
