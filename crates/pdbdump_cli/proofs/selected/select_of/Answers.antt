use Rattle.std.proofs.Common.{inl}
use Rattle.pdb_base.proofs.lemmas.Refused.{passed_on}
use Rattle.pdbdump_rows.proofs.lemmas.Rows.{lines_none}
use Rattle.pdbdump_tables.proofs.lemmas.Listed.{has_count, lists_whole}
use Rattle.pdbdump_cli.proofs.selected.select_of.Goals as goal

pub returns-in_err-search-clause-lists : goal.returns-in_err-search-clause-lists
returns-in_err-search-clause-lists g c = inl (lines_none _ _)

pub returns-in_err-list_selected-clause-lists : goal.returns-in_err-list_selected-clause-lists
returns-in_err-list_selected-clause-lists g c =
    rw (passed_on _ _ c.from_residual-in_err-list_selected.ensures.1) c.in_err-list_selected.ensures.lists

pub returns-clause-lists : goal.returns-clause-lists
returns-clause-lists g c = inl (lists_whole _ _ _ c.in_ok-list_selected.ensures.lists)

pub returns-clause-reported : goal.returns-clause-reported
returns-clause-reported g c = record {
  accounts = c.report_counts.ensures.told _ c.report_lines-has_found.ensures.told;
  counted = λ all. has_count _ _ c.in_ok-list_selected.ensures.counts (c.report_counts.ensures.agree all);
}
