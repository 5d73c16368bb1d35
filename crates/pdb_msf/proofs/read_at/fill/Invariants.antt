use Rattle.std.proofs.Common.{◌≡◌, ◌-◌, ◌≤◌, length, take}
use Rattle.std.specs.Prelude.{IsTrue}
use Rattle.pdb_msf.specs.ReadAt.{bytes_from}
use Rattle.pdb_msf.proofs.read_at.fill.Given as goal

abbrev pub invariant-loop-filled : goal.invariant-loop-filled
invariant-loop-filled g l = record {
  kept : g.F.ReadAt.contents l.file ≡ g.F.ReadAt.contents l.fn.file;
  within : l.filled ≤ length l.fn.room;
  read : IsTrue (g.F.ReadAt.contents l.fn.file).is_fixed → take l.filled l.room
      ≡ bytes_from (g.F.ReadAt.contents l.fn.file) l.offset l.filled;
}

abbrev pub decreases-loop-filled : goal.decreases-loop-filled
decreases-loop-filled g l = length l.room - l.filled
