use Rattle.std.proofs.Common.{refl}
use Rattle.pdb_base.proofs.lemmas.Refused.{passed_on}
use Rattle.pdbdump_tables.specs.Reading.{unread, written}
use Rattle.pdbdump_tables.proofs.ListedLemmas.{both_before}
use Rattle.pdbdump_tables.proofs.lemmas.Reading.{read_of}
use Rattle.pdbdump_tables.proofs.omap_roles.list_omap.Goals as goal

pub returns-in_err-stream-in-Some : goal.returns-in_err-stream-in-Some
returns-in_err-stream-in-Some g c = rw c.in-Some.is
    (unread _ (passed_on _ _ c.from_residual.ensures.1) (read_of _ _ _ _ _ c.in_err-stream-in-Some.ensures) refl)

pub returns-in-Some : goal.returns-in-Some
returns-in-Some g c = rw c.in-Some.is
    (written _ (read_of _ _ _ _ _ c.in_ok-stream-in-Some.ensures) c.write_omap.ensures)

pub returns-in_err-roles-in-None : goal.returns-in_err-roles-in-None
returns-in_err-roles-in-None g c = rw c.in-None.is
    (unread _ (passed_on _ _ c.from_residual-in_err-roles-in-None.ensures.1)
    (read_of _ _ _ _ _ c.in_err-roles-in-None.ensures) refl)

pub returns : goal.returns
returns g c = rw c.in-None.is
    (written _ (read_of _ _ _ _ _ c.in_ok-roles-in-None.ensures)
    (both_before _ _ _ _ _ _ _ _ c.in_ok-roles-in-None.ensures.source
    (rw c.in_ok-roles-in-None.ensures.head at c.list_both.ensures)))
