-- The warnings so far.
use Rattle.std.proofs.Common.{◌≡◌, ◌≤◌, map, take}
use Rattle.pdb_validation.specs.Finding.{finding_view, warning_count}
use Rattle.pdbdump_cli.proofs.finding_lines.warning_count.Given as goal

abbrev pub invariant-loop-finding : goal.invariant-loop-finding
invariant-loop-finding l = record {
  count : l.count ≡ warning_count (map finding_view (take l.finding-index l.findings));
  few : l.count ≤ l.finding-index;
}
