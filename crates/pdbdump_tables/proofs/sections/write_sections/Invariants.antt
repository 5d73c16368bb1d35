-- The rows of the headers that are left are still to be written.
use Rattle.std.proofs.Common.{◌≡◌, ◌-◌, ◌*◌, ◌/◌, length}
use Rattle.pdb_base.specs.Place.{left}
use Rattle.pdbdump_rows.specs.Line.{numbered}
use Rattle.pdbdump_rows.specs.Rows.{AreRowsSoFar, rows_from}
use Rattle.pdbdump_tables.proofs.TableLemmas.{sections_left}
use Rattle.pdbdump_tables.proofs.sections.write_sections.Given as goal

abbrev pub invariant-loop-place : goal.invariant-loop-place
invariant-loop-place g l = record {
  written : AreRowsSoFar l.form (rows_from numbered 1 (length l.fn.stream / 40))
      (sections_left (length l.fn.stream) l.place)
      l.fn.out l.out;
  rest : length (left l.buffer) ≡ length l.fn.stream - 40 * l.place;
}
