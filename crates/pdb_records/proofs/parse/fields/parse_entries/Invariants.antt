-- The entries so far make the fields so far, if these are kept, and with those that are read behind them
-- they are all; none of them is a field, or the list holds an item.
use Rattle.std.proofs.Common.{◌≡◌, List, length}
use Rattle.std.specs.Prelude.{IsTrue}
use Rattle.pdb_base.specs.Place.{left}
use Rattle.pdb_records.specs.ToEnd.{to_end}
use Rattle.pdb_records.proofs.StepLemmas.{behind}
use Rattle.pdb_records.specs.Fields.{Entry, fields_among, continuation_of, field_at}
use Rattle.pdb_values.specs.TypeView.{fields_value}
use Rattle.pdb_records.proofs.MemoryLemmas.{NoFieldYet}
use Rattle.pdb_records.proofs.parse.fields.parse_entries.Given as goal

abbrev pub invariant-entries : goal.invariant-entries
invariant-entries l = record {
  entries : List Entry;
  all : to_end field_at (left l.fn.buffer) ≡ behind entries (to_end field_at (left l.buffer));
  fields : IsTrue l.keep → fields_among entries ≡ fields_value l.fields.items;
  continuation : continuation_of entries ≡ l.continuation;
  begun : NoFieldYet (left l.fn.buffer) (left l.buffer);
}

abbrev pub decreases-entries : goal.decreases-entries
decreases-entries l = length (left l.buffer)
