use Rattle.std.proofs.Common.{◌≡◌, ◌+◌, ◌-◌, ◌≤◌, ◌++◌, length}
use Rattle.std.specs.Prelude.{IsTrue}
use Rattle.pdb_msf.specs.ReadAt.{bytes_from}
use Rattle.pdb_msf.proofs.file_source.append_run.Given as goal

abbrev pub invariant-loop-read : goal.invariant-loop-read
invariant-loop-read g l = record {
  kept : g.F.ReadAt.contents l.file ≡ g.F.ReadAt.contents l.fn.file;
  within : l.read ≤ l.run.size;
  read : IsTrue (g.F.ReadAt.contents l.fn.file).is_fixed → l.bytes.items ≡ l.fn.bytes.items
      ++ bytes_from (g.F.ReadAt.contents l.fn.file) l.run.offset l.read;
  len : length l.bytes.items ≡ length l.fn.bytes.items + l.read;
}

abbrev pub decreases-loop-read : goal.decreases-loop-read
decreases-loop-read g l = l.run.size - l.read
