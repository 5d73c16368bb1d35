use Rattle.std.proofs.Common.{refl, sym}
use Rattle.pdb_base.proofs.lemmas.Collected.{ok_is}
use Rattle.pdbdump_cli.specs.Validated.{concluded, unread}
use Rattle.pdbdump_cli.proofs.validated.judge.Goals as goal

pub returns-in-Ok : goal.returns-in-Ok
returns-in-Ok g c = concluded _ (λ fixed. record {
  are = sym (ok_is _ _ (c.in-Ok.ensures.findings fixed));
  whole = c.in-Ok.ensures.whole fixed;
}) (rw c.deref.ensures.value at c.conclude.ensures)

pub returns-in-Err : goal.returns-in-Err
returns-in-Err g c = unread c.in-Err.fault refl c.tell.ensures
