-- The indexes so far, and those that are read behind them, are all.
use Rattle.std.proofs.Common.{◌≡◌, ◌-◌, ◌≤◌, length}
use Rattle.pdb_base.specs.Place.{left}
use Rattle.pdb_base.specs.Repeated.{read_times}
use Rattle.pdb_records.specs.Shape.{index_at}
use Rattle.pdb_records.proofs.StepLemmas.{behind}
use Rattle.pdb_records.proofs.parse.counted.parse_held_indexes.Given as goal

abbrev pub invariant-loop-indexes : goal.invariant-loop-indexes
invariant-loop-indexes g l = record {
  all : read_times (index_at g.I.Index.said) l.count (left l.fn.buffer)
      ≡ behind l.indexes.items (read_times (index_at g.I.Index.said) (l.count - length l.indexes.items)
      (left l.buffer));
  most : length l.indexes.items ≤ l.count;
}

abbrev pub decreases-loop-indexes : goal.decreases-loop-indexes
decreases-loop-indexes g l = l.count - length l.indexes.items
