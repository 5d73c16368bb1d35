use Rattle.pdb_output.proofs.lemmas.Written.{fails_again}
use Rattle.pdb_output.proofs.output.Output.write.Goals as goal

pub returns-then-self-clause-bytes : goal.returns-then-self-clause-bytes
returns-then-self-clause-bytes g c = fails_again _ _ _
    (c.other.result, c.into.ensures, rw (← c.self.view_is) c.if-self.true)
