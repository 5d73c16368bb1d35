-- The rest is still to be written.
use Rattle.pdb_output.specs.Output.{IsReceived}
use Rattle.pdb_output.proofs.output.write_bytes.Given as goal

abbrev pub invariant-loop : goal.invariant-loop
invariant-loop g l = IsReceived (g.W.Write.contents l.fn.writer) (g.W.Write.contents l.writer) l.initial.rest l.rest
