use Rattle.pdb_base.proofs.lemmas.Refused.{passed_on}
use Rattle.pdbdump_tables.specs.Listing.{whole}
use Rattle.pdbdump_tables.specs.Tables.{omap_all}
use Rattle.pdbdump_tables.proofs.ListedLemmas.{refused_listed}
use Rattle.pdbdump_tables.proofs.omap.write_omap.Goals as goal

pub returns-in_err-table : goal.returns-in_err-table
returns-in_err-table g c =
    rw (passed_on _ _ c.from_residual.ensures.1)
    (refused_listed _ (λ records. whole (omap_all records)) _ _ _ c.in_err-table.ensures)
