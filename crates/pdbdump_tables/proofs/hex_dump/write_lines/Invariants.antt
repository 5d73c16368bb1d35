-- Something was written so far.
use Rattle.std.specs.Prelude.{⊤}
use Rattle.std.proofs.Common.{Ok}
use Rattle.pdbdump_rows.specs.Line.{WritesWhat}
use Rattle.pdbdump_tables.proofs.hex_dump.write_lines.Given as goal

abbrev pub invariant-loop-bytes : goal.invariant-loop-bytes
invariant-loop-bytes g l = WritesWhat (λ text. ⊤) l.fn.out l.out (Ok tt)
