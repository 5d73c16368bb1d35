use Rattle.std.proofs.Common.{◌≡◌, length}
use Rattle.std.specs.Prelude.{IsTrue}
use Rattle.pdb_msf.proofs.read_at.read_uninterrupted.Given as goal

-- A sound file is read at once.
abbrev pub invariant-loop : goal.invariant-loop
invariant-loop g l = record {
  kept : g.F.ReadAt.contents l.file ≡ g.F.ReadAt.contents l.fn.file;
  len : length l.room ≡ length l.fn.room;
  sound : IsTrue (g.F.ReadAt.contents l.fn.file).is_sound → l.counter ≡ 0;
}
