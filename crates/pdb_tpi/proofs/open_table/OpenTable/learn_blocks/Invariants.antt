use Rattle.std.proofs.Common.{◌≡◌, ◌≤◌, ◌<◌, ◌+◌, length, max, vec_capacity}
use Rattle.pdb_tpi.specs.Finder.{first_of_block}
use Rattle.pdb_tpi.specs.OpenTable.{AreKnownPlaces}
use Rattle.pdb_tpi.proofs.open_table.OpenTable.learn_blocks.Given as goal

abbrev pub invariant-loop-block : goal.invariant-loop-block
invariant-loop-block g l =
    let now = l.self-inside in
    let before = l.initial.self-inside in
    record {
      next : l.block ≡ length now.positions.items;
      below : first_of_block now.items l.last < now.items.header.maximum_index;
      stays : AreKnownPlaces now.items now.positions.items (vec_capacity now.positions);
      table : now.items ≡ before.items;
      grown : length before.positions.items ≤ l.block;
      within : l.block ≤ max (length before.positions.items) (l.last + 1);
    }
