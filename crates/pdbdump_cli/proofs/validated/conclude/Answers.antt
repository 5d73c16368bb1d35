use Rattle.std.proofs.Common.{sym, ◌∙◌}
use Rattle.std.proofs.lemmas.Bool.{false≢true}
use Rattle.pdbdump_cli.proofs.ValidateLemmas.{judged_other, judged_passed}
use Rattle.pdbdump_cli.proofs.validated.conclude.Goals as goal

pub returns-then-has_passed : goal.returns-then-has_passed
returns-then-has_passed g c = record {
  written = c.write_findings-written.new.out;
  result = c.write_findings-written.result;
  writes = c.write_findings-written.ensures;
  ended = c.end-status.result;
  ends = c.end-status.ensures;
  judged = judged_passed _ _ c.end-status.result (c.has_passed.ensures.0 c.if-has_passed.true);
}

pub returns : goal.returns
returns g c = record {
  written = c.write_findings-written.new.out;
  result = c.write_findings-written.result;
  writes = c.write_findings-written.ensures;
  ended = c.end-status.result;
  ends = c.end-status.ensures;
  judged = judged_other _ _ c.end-status.result
      (λ has. false≢true (sym c.if-has_passed.false ∙ c.has_passed.ensures.1 has));
}
