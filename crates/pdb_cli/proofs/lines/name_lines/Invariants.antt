use Rattle.std.proofs.Common.{◌≡◌, take}
use Rattle.std.specs.List.{flat_map}
use Rattle.pdb_cli.proofs.LineLemmas.{held_line}
use Rattle.pdb_cli.proofs.lines.name_lines.Given as goal

abbrev pub invariant-loop-name : goal.invariant-loop-name
invariant-loop-name l = l.out.bytes.items ≡ flat_map held_line (take l.name-index l.names)
