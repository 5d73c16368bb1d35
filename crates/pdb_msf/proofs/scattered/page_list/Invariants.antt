use Rattle.std.proofs.Common.{◌≡◌, false, take}
use Rattle.pdb_msf.specs.Source.{positions}
use Rattle.pdb_msf.proofs.PageLemmas.{all_positions}
use Rattle.pdb_msf.proofs.scattered.page_list.Given as goal

abbrev pub invariant-loop-number : goal.invariant-loop-number
invariant-loop-number l = record {
  page_size : l.list.page_size ≡ l.page_size;
  positions : positions l.list.slices ≡ all_positions l.page_size (take l.number-index l.numbers);
  whole : l.list.is_truncated ≡ false;
}
