-- The tables are those of the file, and lines were written so far.
use Rattle.std.proofs.Common.{Ok}
use Rattle.pdbdump_rows.specs.Rows.{WritesLines}
use Rattle.pdbdump_cli.specs.Asked.{IsReady}
use Rattle.pdbdump_cli.proofs.answers.AskedFile.answer_all.Given as goal

abbrev pub invariant-loop : goal.invariant-loop
invariant-loop g l = record {
  ready : IsReady g.S.Source.state l.self;
  lines : WritesLines l.form l.fn.out l.out (Ok tt);
}
