use Rattle.std.proofs.Common.{refl}
use Rattle.pdb_base.proofs.lemmas.Refused.{passed_on}
use Rattle.pdbdump_rows.proofs.lemmas.Rows.{rows_none}
use Rattle.pdbdump_tables.specs.Reading.{unread, written}
use Rattle.pdbdump_tables.proofs.lemmas.Reading.{read_of}
use Rattle.pdbdump_tables.proofs.file_tables.list_sections.Goals as goal

pub returns-in_err-stream : goal.returns-in_err-stream
returns-in_err-stream g c =
    unread _ (passed_on _ _ c.from_residual.ensures.1) (read_of _ _ _ _ _ c.in_err-stream.ensures) refl

pub returns-in-Some : goal.returns-in-Some
returns-in-Some g c =
    written _ (read_of _ _ _ _ _ (rw c.in-Some.is at c.in_ok-stream.ensures)) c.write_sections.ensures

pub returns : goal.returns
returns g c =
    written _ (read_of _ _ _ _ _ (rw c.in-None.is at c.in_ok-stream.ensures)) (refl, rows_none _ _)
