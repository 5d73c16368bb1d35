use Rattle.std.proofs.Common.{inl}
use Rattle.pdbdump_rows.proofs.lemmas.Rows.{lines_none}
use Rattle.pdbdump_tables.proofs.item_listing.select_ids.Goals as goal

pub returns-in_err-table-clause-lists : goal.returns-in_err-table-clause-lists
returns-in_err-table-clause-lists g c = inl (lines_none _ _)
