use Rattle.pdbdump_cli.proofs.incomplete.report_list.Goals as goal

pub returns-clause-told : goal.returns-clause-told
returns-clause-told g c = c.report_counts.ensures.told _ c.report_lines-has_read.ensures.told
