-- All rows were written, or it is told why not.
use Rattle.std.proofs.Common.{rules}
use Rattle.pdbdump_rows.proofs.lemmas.Sink.{adds_more, lines_of_rows}
use Rattle.pdbdump_cli.proofs.finding_lines.write_rows.Goals as goal

pub returns : goal.returns
returns g c =
    lines_of_rows _ _ _ c.finish.new.self _ _ _
    (adds_more _ _ _ c.write_file.ensures c.loop-finding.invariant) (search rules) (search rules)
    c.new-rows.ensures.now c.finish.ensures.out c.finish.ensures.result (search rules)
