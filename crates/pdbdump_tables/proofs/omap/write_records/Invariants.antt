-- The rows of the records that are left are still to be written.
use Rattle.pdbdump_rows.specs.Rows.{AreRowsSoFar}
use Rattle.pdbdump_tables.specs.Tables.{omap_rows}
use Rattle.pdbdump_tables.proofs.omap.write_records.Given as goal

abbrev pub invariant-loop-record : goal.invariant-loop-record
invariant-loop-record g l = AreRowsSoFar l.form (omap_rows l.table) (omap_rows l.record-iterator) l.fn.out l.out
