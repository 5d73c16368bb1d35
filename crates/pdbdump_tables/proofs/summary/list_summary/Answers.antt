-- All rows were written, or it is told why not.
use Rattle.std.proofs.Common.{rules}
use Rattle.pdbdump_rows.proofs.lemmas.Sink.{adds_more, lines_of_rows}
use Rattle.pdbdump_tables.proofs.summary.list_summary.Goals as goal

pub returns : goal.returns
returns g c =
    lines_of_rows _ _ _ c.finish-written.new.self _ _ _
    (adds_more _ _ _ c.write_parts.ensures c.write_pages.ensures) (search rules) (search rules)
    c.new-rows.ensures.now c.finish-written.ensures.out c.finish-written.ensures.result (search rules)
