-- The row is one of the lines.
use Rattle.std.proofs.Common.{[], refl}
use Rattle.pdbdump_rows.proofs.lemmas.Sink.{adds_row}
use Rattle.pdbdump_rows.proofs.rows.Rows.row.Goals as goal

pub returns-clause-lines : goal.returns-clause-lines
returns-clause-lines g c =
    adds_row _ _ _ _ [] c.begin.ensures.lines c.end.ensures.line refl refl refl
    c.begin.ensures.line c.fields.ensures.row
