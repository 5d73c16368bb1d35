-- What the entries that are left give is what all give.
use Rattle.std.proofs.Common.{◌≡◌, ◌-◌}
use Rattle.pdb_base.specs.Place.{left}
use Rattle.pdb_file.specs.Image.{entry_at, first_read, is_code_view}
use Rattle.pdb_file.proofs.image.code_view.Given as goal

abbrev pub invariant-loop : goal.invariant-loop
invariant-loop l =
    first_read entry_at is_code_view (l.count - l.counter) (left l.buffer)
    ≡ first_read entry_at is_code_view l.count l.directory
