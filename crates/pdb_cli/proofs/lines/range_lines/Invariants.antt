use Rattle.std.proofs.Common.{◌≡◌, take, string_bytes}
use Rattle.std.specs.List.{flat_map}
use Rattle.pdb_cli.specs.Lines.{range_line}
use Rattle.pdb_cli.proofs.lines.range_lines.Given as goal

abbrev pub invariant-loop-range : goal.invariant-loop-range
invariant-loop-range l = string_bytes l.out ≡ flat_map range_line (take l.range-index l.ranges)
