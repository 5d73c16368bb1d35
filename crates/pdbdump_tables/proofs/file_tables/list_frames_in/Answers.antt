use Rattle.std.proofs.Common.{inr, refl}
use Rattle.pdb_base.proofs.lemmas.Refused.{passed_on}
use Rattle.pdbdump_rows.proofs.lemmas.Rows.{rows_lack}
use Rattle.pdbdump_tables.specs.Reading.{unread, written}
use Rattle.pdbdump_tables.proofs.lemmas.Reading.{read_of}
use Rattle.pdbdump_tables.proofs.file_tables.list_frames_in.Goals as goal

pub returns-in_err-table : goal.returns-in_err-table
returns-in_err-table g c =
    unread _ (passed_on _ _ c.from_residual.ensures.1) (read_of _ _ _ _ _ c.in_err-table.ensures) refl

pub returns-in_err-programs : goal.returns-in_err-programs
returns-in_err-programs g c =
    rw (passed_on _ _ c.from_residual-in_err-programs.ensures.1)
    (written _ (read_of _ _ _ _ _ c.in_ok-table.ensures) (inr (rows_lack _ _ _ _ refl)))

pub returns : goal.returns
returns g c = written _ (read_of _ _ _ _ _ c.in_ok-table.ensures) c.write_frames.ensures
