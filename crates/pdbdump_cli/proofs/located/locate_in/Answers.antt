use Rattle.std.proofs.Common.{inl, inr}
use Rattle.pdb_base.proofs.lemmas.Refused.{passed_on}
use Rattle.pdbdump_rows.proofs.lemmas.Rows.{lines_none}
use Rattle.pdbdump_cli.proofs.located.locate_in.Goals as goal

pub returns-in_err-past : goal.returns-in_err-past
returns-in_err-past g c = inl (lines_none _ _)

pub returns-in_err-there : goal.returns-in_err-there
returns-in_err-there g c = inl (lines_none _ _)

pub returns-in_err-pages : goal.returns-in_err-pages
returns-in_err-pages g c = inl (lines_none _ _)

pub returns-in_err-list_places : goal.returns-in_err-list_places
returns-in_err-list_places g c =
    rw (passed_on _ _ c.from_residual-in_err-list_places.ensures.1) (inr c.in_err-list_places.ensures)

pub returns : goal.returns
returns g c = inl c.in_ok-list_places.ensures
