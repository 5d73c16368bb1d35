use Rattle.std.proofs.Common.{◌≡◌, ◌++◌}
use Rattle.std.specs.List.{flat_map, range_with_len}
use Rattle.pdb_validation.specs.PageOwners.{owners_of_stream}
use Rattle.pdb_validation.proofs.page_owners.push_streams.Given as goal

abbrev pub invariant-loop-number : goal.invariant-loop-number
invariant-loop-number l = l.owners.items ≡ l.initial.owners.items
    ++ flat_map (owners_of_stream l.layout) (range_with_len 0 l.number)
