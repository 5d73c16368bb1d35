use Rattle.pdbdump_rows.proofs.lemmas.Rows.{lines_more}
use Rattle.pdbdump_cli.proofs.WrittenLemmas.{lines_flushed}
use Rattle.pdbdump_cli.proofs.answers.AskedFile.answer_all.Goals as goal

pub returns-then-count-eq0 : goal.returns-then-count-eq0
returns-then-count-eq0 g c =
    lines_more _ _ _ _ _ c.in_ok-all.ensures.lines
    (lines_more _ _ _ _ _ (lines_flushed _ _ _ c.in_ok-flush.ensures.bytes.0) c.loop.invariant.lines)

pub loop-preserved : goal.loop-preserved
loop-preserved g c = record {
  ready = c.in_ok-all-2.ensures.kept;
  lines = lines_more _ _ _ _ _ c.in_ok-all-2.ensures.lines
      (lines_more _ _ _ _ _ (lines_flushed _ _ _ c.in_ok-flush.ensures.bytes.0) c.loop.invariant.lines);
}
