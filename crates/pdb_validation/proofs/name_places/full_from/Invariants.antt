use Rattle.std.proofs.Common.{◌≡◌}
use Rattle.pdb_validation.specs.StringTable.{full_from}
use Rattle.pdb_validation.proofs.name_places.full_from.Given as goal

abbrev pub invariant-loop-place : goal.invariant-loop-place
invariant-loop-place l = l.from ≡ full_from l.stream l.place
