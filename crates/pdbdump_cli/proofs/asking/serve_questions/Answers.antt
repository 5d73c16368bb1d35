use Rattle.std.proofs.Common.{refl}
use Rattle.pdbdump_cli.proofs.asking.serve_questions.Goals as goal

pub returns-in-Ok : goal.returns-in-Ok
returns-in-Ok g c = rw c.in-Ok.is (record {
  written = c.ask-answered.new.out;
  told = c.args.err.now;
  answer = c.ask-answered.result;
  does = record { lines = c.ask-answered.ensures; silent = refl };
  ends = c.end_as.ensures;
})
