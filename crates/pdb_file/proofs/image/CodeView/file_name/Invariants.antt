-- The part so far, behind which the rest of the path follows.
use Rattle.std.proofs.Common.{◌≡◌, ◌≤◌, drop}
use Rattle.pdb_file.specs.Image.{last_part, part_behind}
use Rattle.pdb_file.proofs.image.CodeView.file_name.Given as goal

abbrev pub invariant-loop-place : goal.invariant-loop-place
invariant-loop-place l = record {
  part : part_behind (drop l.start l.self.path.items) (drop l.place l.self.path.items) ≡ last_part l.self.path.items;
  within : l.start ≤ l.place;
}
