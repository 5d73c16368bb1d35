use Rattle.pdb_base.proofs.lemmas.Refused.{passed_on}
use Rattle.pdbdump_rows.proofs.lemmas.Rows.{rows_first, rows_of_row, rows_second}
use Rattle.pdbdump_tables.proofs.omap.write_table.Goals as goal

pub returns-in_err-write_records : goal.returns-in_err-write_records
returns-in_err-write_records g c = rw (passed_on _ _ c.from_residual.ensures.1)
    (rows_first _ _ _ _ _ _ c.in_err-write_records.ensures)

pub returns : goal.returns
returns g c = rows_second _ _ _ _ _ _ _ c.in_ok-write_records.ensures (rows_of_row _ _ _ _ _ c.write_order.ensures)
