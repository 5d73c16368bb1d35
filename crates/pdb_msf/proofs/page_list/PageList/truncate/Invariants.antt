use Rattle.std.proofs.Common.{◌-◌, ◌≡◌, ◌+◌, ◌≤◌, true, length, vec_len}
use Rattle.pdb_msf.specs.Source.{positions}
use Rattle.pdb_msf.specs.PageList.{first_bytes_of}
use Rattle.pdb_msf.proofs.page_list.PageList.truncate.Given as goal

abbrev pub invariant-loop-self : goal.invariant-loop-self
invariant-loop-self l = record {
  counted : l.self-inside.len ≡ length (positions l.self-inside.slices.items);
  front : first_bytes_of l.len l.self-inside.slices.items ≡ first_bytes_of l.len l.fn.self.slices;
  page_size : l.self-inside.page_size ≡ l.fn.self.page_size;
  page_size_fits : l.self-inside.page_size ≤ 0x800000;
  marked : l.self-inside.is_truncated ≡ true;
}

abbrev pub decreases-loop-self : goal.decreases-loop-self
decreases-loop-self l = vec_len l.self-inside.slices + (l.self-inside.len - l.len)
