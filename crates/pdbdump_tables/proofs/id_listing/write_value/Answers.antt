-- What stands there at each exit.
use Rattle.pdb_base.proofs.lemmas.Refused.{passed_on}
use Rattle.pdbdump_rows.specs.Lines.{full_text}
use Rattle.pdbdump_rows.proofs.lemmas.Line.{made_written}
use Rattle.pdbdump_tables.proofs.ShownLemmas.{row_cut, shown_alone}
use Rattle.pdbdump_tables.proofs.id_listing.write_value.Goals as goal

pub returns-in_err-write : goal.returns-in_err-write
returns-in_err-write g c =
    rw (passed_on _ _ c.from_residual-in_err-write.ensures.1)
    (row_cut _ _ _ _ _ (made_written (full_text c.args.form) _ _ _ _ _ _ c.in_ok-make_full.ensures
    c.as_bytes.ensures c.in_err-write.ensures.bytes))

pub returns : goal.returns
returns g c = shown_alone _ _ _ _ (made_written (full_text c.args.form) _ _ _ _ _ _ c.in_ok-make_full.ensures
    c.as_bytes.ensures c.in_ok-write.ensures.bytes)
