-- All rows were written, or it is told why not.
use Rattle.std.proofs.Common.{rules}
use Rattle.pdbdump_rows.proofs.lemmas.Sink.{lines_of_rows}
use Rattle.pdbdump_tables.proofs.map.write_map.Goals as goal

pub returns : goal.returns
returns g c =
    lines_of_rows _ _ _ c.finish.new.self _ _ _ c.loop-asked.invariant (search rules) (search rules)
    c.new-rows.ensures.now c.finish.ensures.out c.finish.ensures.result (search rules)
