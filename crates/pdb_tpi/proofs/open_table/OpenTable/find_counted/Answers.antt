use Rattle.std.proofs.Common.{◌≤◌, length, refl, arith}
use Rattle.pdb_tpi.specs.Item.{item_bytes}
use Rattle.pdb_tpi.proofs.PositionLemmas.{record_placed}
use Rattle.pdb_tpi.proofs.open_table.OpenTable.find_counted.Goals as goal

pub record_before-requires-clause-before : goal.record_before-requires-clause-before
record_before-requires-clause-before g c =
    let there = record_placed _ _ _ c.in_ok-item.end (item_bytes c.in_ok-item.item) c.in_ok-item.ensures.end refl
    c.in_ok-item.ensures.item in
    let before : length (item_bytes c.in_ok-item.item) ≤ c.in_ok-item.end = there.before in
    omega (arith, before, c.len.ensures)
