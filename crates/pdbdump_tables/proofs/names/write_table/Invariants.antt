-- The rows of the names from the next place on are still to be written.
use Rattle.std.proofs.Common.{◌-◌}
use Rattle.pdbdump_rows.specs.Rows.{AreRowsSoFar}
use Rattle.pdbdump_tables.specs.Tables.{all_names, name_rows, names_from}
use Rattle.pdbdump_tables.proofs.names.write_table.Given as goal

abbrev pub invariant-loop : goal.invariant-loop
invariant-loop g l = AreRowsSoFar l.form (name_rows (all_names l.table))
    (name_rows (names_from (0xffffffff - l.counter) l.table l.place)) l.fn.out l.out
