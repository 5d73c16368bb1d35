-- The table stays, what is found for the indexes so far is written, and the items behind it are as they were.
use Rattle.std.proofs.Common.{◌≡◌, map, take, drop}
use Rattle.pdb_handles.specs.Tables.{record_found}
use Rattle.pdb_handles.proofs.tables.find_records.Given as goal

abbrev pub invariant-loop-index : goal.invariant-loop-index
invariant-loop-index l = l.types ≡ l.fn.types

abbrev pub invariant-loop-at : goal.invariant-loop-at
invariant-loop-at l =
    (take l.at l.room ≡ map (record_found l.fn.types.table) (take l.at l.indexes))
    × (drop l.at l.room ≡ drop l.at l.fn.room)
