-- The table's listing, or its refusal.
use Rattle.std.proofs.Common.{refl}
use Rattle.pdb_base.proofs.lemmas.Refused.{passed_on}
use Rattle.pdbdump_tables.specs.Listed.{refused, walked}
use Rattle.pdbdump_tables.proofs.item_listing.items.Goals as goal

pub returns-in_err-table-clause-lists : goal.returns-in_err-table-clause-lists
returns-in_err-table-clause-lists g c = refused c.in_err-table.field-0.0
    (passed_on _ _ c.from_residual.ensures.1) c.in_err-table.ensures refl

pub returns-clause-lists : goal.returns-clause-lists
returns-clause-lists g c = walked c.in_ok-table.table c.in_ok-table.ensures c.list_items.ensures.lists
