use Rattle.std.proofs.Common.{refl}
use Rattle.pdb_base.proofs.lemmas.Refused.{passed_on}
use Rattle.pdbdump_tables.specs.Reading.{unread, written}
use Rattle.pdbdump_cli.proofs.listed.list_types.Goals as goal

pub returns-in_err-stream : goal.returns-in_err-stream
returns-in_err-stream g c = unread _ (passed_on _ _ c.from_residual.ensures.1) c.in_err-stream.ensures refl

pub returns-in-Some : goal.returns-in-Some
returns-in-Some g c = rw c.in-Some.is (written _ c.in_ok-stream.ensures c.type_at.ensures)

pub returns-in-None : goal.returns-in-None
returns-in-None g c = rw c.in-None.is (written _ c.in_ok-stream.ensures c.items.ensures.lists)
