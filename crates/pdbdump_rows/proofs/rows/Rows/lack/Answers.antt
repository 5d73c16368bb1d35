-- Why no more is written is noted.
use Rattle.std.proofs.Common.{refl}
use Rattle.pdbdump_rows.proofs.lemmas.Sink.{adds_lacking, lacking_again, lacking_first}
use Rattle.pdbdump_rows.proofs.rows.Rows.lack.Goals as goal

pub returns-then-is_none-clause-fault : goal.returns-then-is_none-clause-fault
returns-then-is_none-clause-fault g c = lacking_first _ c.if-is_none.ensures

pub returns-then-is_none-clause-lines : goal.returns-then-is_none-clause-lines
returns-then-is_none-clause-lines g c = adds_lacking _ _ refl refl (lacking_first _ c.if-is_none.ensures)

pub returns-else-is_none-clause-fault : goal.returns-else-is_none-clause-fault
returns-else-is_none-clause-fault g c = lacking_again _ c.if-is_none.ensures
