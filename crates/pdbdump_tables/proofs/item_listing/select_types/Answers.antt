use Rattle.std.proofs.Common.{inl}
use Rattle.pdbdump_rows.proofs.lemmas.Rows.{lines_none}
use Rattle.pdbdump_tables.proofs.item_listing.select_types.Goals as goal

pub returns-in_err-types-clause-lists : goal.returns-in_err-types-clause-lists
returns-in_err-types-clause-lists g c = inl (lines_none _ _)

pub returns-in_err-find-clause-lists : goal.returns-in_err-find-clause-lists
returns-in_err-find-clause-lists g c = inl (lines_none _ _)
