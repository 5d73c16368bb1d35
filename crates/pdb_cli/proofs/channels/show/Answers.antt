use Rattle.pdb_base.proofs.lemmas.Refused.{passed_on}
use Rattle.pdb_output.proofs.lemmas.Written.{flushed_after}
use Rattle.pdb_cli.proofs.channels.show.Goals as goal

pub returns-in_err-flush-clause-cut : goal.returns-in_err-flush-clause-cut
returns-in_err-flush-clause-cut g c =
    let got = rw c.deref.ensures.value at c.in_ok-write.ensures.bytes in
    rw (passed_on _ _ c.from_residual-in_err-flush.ensures.1)
    (c.in_err-flush.ensures.failed, (flushed_after _ _ _ _ _ got c.in_err-flush.ensures.bytes).prefix)
