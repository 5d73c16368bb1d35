use Rattle.std.proofs.Common.{refl}
use Rattle.pdb_base.proofs.lemmas.Refused.{passed_on}
use Rattle.pdbdump_cli.specs.Listed.{listed, refused}
use Rattle.pdbdump_cli.proofs.listed.list.Goals as goal

pub returns-in_err-file-clause-does : goal.returns-in_err-file-clause-does
returns-in_err-file-clause-does g c =
    rw (passed_on _ _ c.from_residual.ensures.1) (refused _ refl c.in_err-file.ensures.head refl)

pub returns-clause-does : goal.returns-clause-does
returns-clause-does g c = listed _ _ c.in_ok-file.ensures.kept c.in_ok-file.ensures.head c.list_opened.ensures.does
