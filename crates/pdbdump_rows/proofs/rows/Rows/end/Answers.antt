-- The line is written, or why it isn't is noted.
use Rattle.std.proofs.Common.{refl, ◌∙◌}
use Rattle.pdbdump_rows.specs.Sink.{AddsLine}
use Rattle.pdbdump_rows.proofs.lemmas.Sink.{ends_at, ends_failed, none_is}
use Rattle.pdbdump_rows.proofs.rows.Rows.end.Goals as goal

pub returns-in-Err-clause-line : goal.returns-in-Err-clause-line
unfolding AddsLine
returns-in-Err-clause-line g c = record {
  row = λ start row adds first. record {
    same = refl;
    form = refl;
    text = ends_at _ row start _ _ _ _ _ _ c.if-is_none.ensures c.in-Err.is c.write_line.ensures adds first;
  };
}

pub returns-in_default-clause-line : goal.returns-in_default-clause-line
unfolding AddsLine
returns-in_default-clause-line g c = record {
  row = λ start row adds first. record {
    same = refl;
    form = refl;
    text = ends_at _ row start _ _ _ _ _ _ c.if-is_none.ensures
        (c.in_default.is ∙ none_is _ c.if-is_none.ensures) c.write_line.ensures adds first;
  };
}

pub returns-else-is_none-clause-line : goal.returns-else-is_none-clause-line
returns-else-is_none-clause-line g c = ends_failed _ c.if-is_none.ensures
