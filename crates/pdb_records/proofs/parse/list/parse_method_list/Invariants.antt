-- The methods so far, and those that are read behind them, are all; nothing was read yet, or the first
-- method is there.
use Rattle.std.proofs.Common.{◌≡◌, ◌⊎◌, length}
use Rattle.pdb_base.specs.Place.{left}
use Rattle.pdb_records.specs.Row.{row}
use Rattle.pdb_records.specs.ToEnd.{to_end}
use Rattle.pdb_records.proofs.StepLemmas.{behind}
use Rattle.pdb_records.specs.Rows.{listed_method_row}
use Rattle.pdb_records.specs.Memory.{HoldsMethod}
use Rattle.pdb_records.proofs.parse.list.parse_method_list.Given as goal

abbrev pub invariant-loop-buffer : goal.invariant-loop-buffer
invariant-loop-buffer l = record {
  all : to_end (row listed_method_row) (left l.fn.buffer)
      ≡ behind l.methods.items (to_end (row listed_method_row) (left l.buffer));
  begun : (left l.buffer ≡ left l.fn.buffer) ⊎ HoldsMethod (left l.fn.buffer);
}

abbrev pub decreases-loop-buffer : goal.decreases-loop-buffer
decreases-loop-buffer l = length (left l.buffer)
