use Rattle.std.proofs.Common.{◌*◌, ◌-◌, ◌<◌, length, vec_capacity, ap, refl, arith}
use Rattle.std.proofs.lemmas.List.{length_push}
use Rattle.pdb_tpi.specs.declared.header.Header.{Header}
use Rattle.pdb_tpi.specs.Table.{Table}
use Rattle.pdb_tpi.specs.Finder.{first_of_block}
use Rattle.pdb_tpi.proofs.StepLemmas.{nth_err}
use Rattle.pdb_tpi.proofs.FinderLemmas.{block_learned, up_to_is}
use Rattle.pdb_tpi.proofs.open_table.OpenTable.learn_blocks.Goals as goal

pub push_reserved-requires : goal.push_reserved-requires
push_reserved-requires g c =
    let now = c.loop-block.self-inside in
    let is = c.loop-block.invariant in
    let below : first_of_block now.items c.loop-block.block < now.items.header.maximum_index = omega arith in
    let some : 0 < length now.positions.items = is.stays.some (omega arith) in
    let more = block_learned now.items now.positions.items (vec_capacity now.positions) c.loop-block.block c.in-Ok.end
    is.stays.blocks is.next some c.in-Ok.ensures.end below in
    omega (arith, more.0, now.positions.ok.0)

pub loop-block-preserved : goal.loop-block-preserved
loop-block-preserved g c =
    let now = c.loop-block.self-inside in
    let is = c.loop-block.invariant in
    let below : first_of_block now.items c.loop-block.block < now.items.header.maximum_index = omega arith in
    let some : 0 < length now.positions.items = is.stays.some (omega arith) in
    let more = block_learned now.items now.positions.items (vec_capacity now.positions) c.loop-block.block c.in-Ok.end
    is.stays.blocks is.next some c.in-Ok.ensures.end below in
    let longer = length_push now.positions.items c.in-Ok.end in
    record {
      next = rw c.push_reserved.ensures.items (omega (arith, longer));
      below = is.below;
      stays = rw (c.push_reserved.ensures.items, c.push_reserved.ensures.capacity)
          (record { blocks = more.1; some = λ counted. omega (arith, longer) });
      table = is.table;
      grown = omega (arith, is.grown);
      within = omega (arith, is.within);
    }

pub returns-in_default-clause-learned : goal.returns-in_default-clause-learned
returns-in_default-clause-learned g c _ =
    let inv = c.loop-block.invariant in
    let none = (nth_err c.loop-block.self-inside.items (c.loop-block.block * 8 - 1) _ c.in_default.ensures.item).0 in
    omega (arith, none, inv.next, inv.stays.some (omega arith))

pub returns-in_default-clause-next : goal.returns-in_default-clause-next
returns-in_default-clause-next g c =
    let now = c.loop-block.self-inside in
    let inv = c.loop-block.invariant in
    let i = g.I.ItemIndex.number c.args.index in
    let is = g.met.I.ItemIndex.turns_into c.args.index c.into-number.result c.into-number.ensures in
    let least = ap (λ (h : Header). h.minimum_index) c.header-header.ensures.header in
    let most = ap (λ (h : Header). h.maximum_index) c.header-header.ensures.header in
    let first = ap (λ (t : Table). t.header.minimum_index) inv.table in
    let last = ap (λ (t : Table). t.header.maximum_index) inv.table in
    let none = (nth_err now.items (c.loop-block.block * 8 - 1) _ c.in_default.ensures.item).0 in
    let up = up_to_is now.items now.positions.items _ (length c.self.inside.positions.items) i inv.stays.blocks
    (omega arith) (omega arith) (omega (arith, inv.grown, inv.next)) (omega (arith, inv.within, inv.next))
    (omega (arith, none, inv.next, inv.stays.some (omega arith))) in
    rw (← c.self.view_is, ← inv.table, ← up) refl

pub returns-clause-next : goal.returns-clause-next
returns-clause-next g c =
    let now = c.loop-block.self-inside in
    let inv = c.loop-block.invariant in
    let i = g.I.ItemIndex.number c.args.index in
    let is = g.met.I.ItemIndex.turns_into c.args.index c.into-number.result c.into-number.ensures in
    let least = ap (λ (h : Header). h.minimum_index) c.header-header.ensures.header in
    let most = ap (λ (h : Header). h.maximum_index) c.header-header.ensures.header in
    let first = ap (λ (t : Table). t.header.minimum_index) inv.table in
    let last = ap (λ (t : Table). t.header.maximum_index) inv.table in
    let up = up_to_is now.items now.positions.items _ (length c.self.inside.positions.items) i inv.stays.blocks
    (omega arith) (omega arith) (omega (arith, inv.grown, inv.next)) (omega (arith, inv.within, inv.next))
    (omega (arith, inv.next, c.loop-block-test.false)) in
    rw (← c.self.view_is, ← inv.table, ← up) refl
