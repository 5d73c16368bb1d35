-- The listing behind the line of the role.
use Rattle.std.proofs.Common.{inl, refl}
use Rattle.pdb_base.proofs.lemmas.Refused.{passed_on}
use Rattle.pdbdump_rows.proofs.lemmas.Rows.{rows_none, rows_of_row}
use Rattle.pdbdump_tables.proofs.ListedLemmas.{head_cut, listed_headed}
use Rattle.pdbdump_tables.proofs.omap_roles.list_role.Goals as goal

pub returns-in-Ok-None : goal.returns-in-Ok-None
returns-in-Ok-None g c = rw (c.in-Ok-None.is, c.in-Ok-None.field-0-is) (refl, rows_none _ _)

pub returns-in_err-write_role-in-Ok-Some : goal.returns-in_err-write_role-in-Ok-Some
returns-in_err-write_role-in-Ok-Some g c =
    rw (c.in-Ok-Some.is, c.in-Ok-Some.field-0-is, passed_on _ _ c.from_residual.ensures.1)
    (head_cut _ _ _ _ _ _ (rows_of_row _ _ _ _ _ c.in_err-write_role-in-Ok-Some.ensures))

pub returns-in_ok-write_role-in-Ok-Some : goal.returns-in_ok-write_role-in-Ok-Some
returns-in_ok-write_role-in-Ok-Some g c = rw (c.in-Ok-Some.is, c.in-Ok-Some.field-0-is)
    (listed_headed _ _ _ _ _ _ _ (rows_of_row _ _ _ _ _ c.in_ok-write_role-in-Ok-Some.ensures) c.write_omap.ensures)

pub returns-in_err-write_role-in-Err : goal.returns-in_err-write_role-in-Err
returns-in_err-write_role-in-Err g c =
    rw (c.in-Err.is, passed_on _ _ c.from_residual-in_err-write_role-in-Err.ensures.1)
    (head_cut _ _ _ _ _ _ (rows_of_row _ _ _ _ _ c.in_err-write_role-in-Err.ensures))

pub returns-in_ok-write_role-in-Err : goal.returns-in_ok-write_role-in-Err
returns-in_ok-write_role-in-Err g c = rw c.in-Err.is
    (inl (refl, rows_of_row _ _ _ _ _ c.in_ok-write_role-in-Err.ensures))
