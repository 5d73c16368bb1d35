use Rattle.std.proofs.Common.{inl}
use Rattle.pdbdump_rows.proofs.lemmas.Rows.{lines_none}
use Rattle.pdbdump_cli.proofs.WrittenLemmas.{answered}
use Rattle.pdbdump_cli.proofs.selected.select_in.Goals as goal

pub returns-in_err-stream-clause-lists : goal.returns-in_err-stream-clause-lists
returns-in_err-stream-clause-lists g c = inl (lines_none _ _)

pub returns-clause-reported : goal.returns-clause-reported
returns-clause-reported g c = answered _ _ _ _ _ c.in_ok-stream.ensures c.select_of.ensures.reported
