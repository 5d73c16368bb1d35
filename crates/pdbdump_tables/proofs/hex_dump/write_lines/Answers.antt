use Rattle.std.specs.Prelude.{⊤}
use Rattle.std.proofs.Common.{◌++◌, Result, Ok}
use Rattle.pdb_base.specs.declared.error.Error.{Error}
use Rattle.pdb_base.proofs.lemmas.Refused.{passed_on}
use Rattle.pdb_output.specs.Output.{OutputState}
use Rattle.pdb_output.proofs.lemmas.Written.{second_writes}
use Rattle.pdbdump_rows.specs.Line.{WritesWhat}
use Rattle.pdbdump_tables.proofs.hex_dump.write_lines.Goals as goal

-- something behind something else
more : (old now new : OutputState) (result : Result (Unit {0}) Error) → WritesWhat (λ text. ⊤) old now (Ok tt)
    → WritesWhat (λ text. ⊤) now new result → WritesWhat (λ text. ⊤) old new result
more old now new result before next = record {
  text = before.text ++ next.text;
  holds = tt;
  written = second_writes old now new before.text next.text result before.written next.written;
}

pub loop-bytes-preserved : goal.loop-bytes-preserved
loop-bytes-preserved g c = more _ _ _ _ c.loop-bytes.invariant c.in_ok-write_line.ensures

pub returns-in_err-write_line : goal.returns-in_err-write_line
returns-in_err-write_line g c =
    rw (passed_on _ _ c.from_residual.ensures.1) (more _ _ _ _ c.loop-bytes.invariant c.in_err-write_line.ensures)
