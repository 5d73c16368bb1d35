use Rattle.std.proofs.Common.{ap, ◌∙◌}
use Rattle.std.proofs.lemmas.Bool.{ne_eqb}
use Rattle.pdb_tpi.specs.Table.{Table}
use Rattle.pdb_validation.proofs.TableLemmas.{table_header_told}
use Rattle.pdb_validation.proofs.table_header.check_table_header.Goals as goal

pub returns : goal.returns
returns g c =
    table_header_told c.args.scope.now.extent c.args.scope.now.layout.now c.args.number c.args.table.now.table
    _ _ _ _ _ _ (c.header.ensures.header ∙ ap (λ (t : Table). t.header) c.items.ensures)
    (ne_eqb c.header.result.header_size 0 c.if-header-eq0.false) c.record_fields.ensures c.hash_fields.ensures
    c.new-mismatches.ensures.items c.in_ok-add_fields.ensures c.in_ok-add_fields-2.ensures
