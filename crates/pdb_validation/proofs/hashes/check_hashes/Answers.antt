use Rattle.std.proofs.Common.{ap, ◌∙◌}
use Rattle.pdb_tpi.specs.Table.{Table}
use Rattle.pdb_validation.proofs.HashLemmas.{hashes_told}
use Rattle.pdb_validation.proofs.hashes.check_hashes.Goals as goal

pub returns : goal.returns
returns g c =
    hashes_told c.args.extent c.args.number c.args.table.now.table _ c.args.hashes.now _ _ _ _ _
    (c.header-header.ensures.header ∙ ap (λ (t : Table). t.header) c.items.ensures)
    c.part_in-values.ensures c.part_in-offsets.ensures c.new-mismatches.ensures.items c.in_ok-add_values.ensures
    c.in_ok-add_offsets.ensures
