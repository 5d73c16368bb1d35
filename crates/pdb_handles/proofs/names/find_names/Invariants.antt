-- What is found at the offsets so far is written, and the items behind it are as they were.
use Rattle.std.proofs.Common.{◌≡◌, map, take, drop}
use Rattle.pdb_handles.specs.Names.{name_place, place_or_zeros}
use Rattle.pdb_handles.proofs.names.find_names.Given as goal

abbrev pub invariant-loop-at : goal.invariant-loop-at
invariant-loop-at l =
    (take l.at l.room ≡ map (λ offset. place_or_zeros (name_place l.names offset)) (take l.at l.offsets))
    × (drop l.at l.room ≡ drop l.at l.fn.room)
