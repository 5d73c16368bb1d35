use Rattle.std.proofs.Common.{ap, ◌∙◌}
use Rattle.pdb_tpi.specs.declared.header.Header.{Header}
use Rattle.pdb_tpi.specs.Table.{Table, count_in_header}
use Rattle.pdb_validation.specs.Hashes.{value_mismatch}
use Rattle.pdb_validation.proofs.HashLemmas.{values_told}
use Rattle.pdb_validation.proofs.PlaceLemmas.{places_more, places_none}
use Rattle.pdb_validation.proofs.hashes.add_values.Goals as goal

pub loop-place-init : goal.loop-place-init
loop-place-init g c = places_none _ _ _

pub loop-place-preserved : goal.loop-place-preserved
loop-place-preserved g c =
    let header = c.header-header.ensures.header ∙ ap (λ (t : Table). t.header) c.items.ensures in
    places_more c.args.extent (value_mismatch c.args.number c.args.table.now.table.header c.args.values.now) _ _ _ _ _
    c.loop-place.invariant
    (c.value_mismatch.ensures
    ∙ ap (λ (h : Header). value_mismatch c.args.number h c.args.values.now c.loop-place.place) header)
    c.in_ok-add-2.ensures

pub returns : goal.returns
returns g c =
    values_told c.args.extent c.args.number c.args.table.now.table c.args.values.now c.len.result c.loop-place.place
    c.count_mismatch.result _ _ _ (c.len.ensures ∙ ap count_in_header c.items-2.ensures) c.count_mismatch.ensures
    c.in_ok-add.ensures c.loop-place.auto.place-end c.loop-place-test.false c.loop-place.invariant
