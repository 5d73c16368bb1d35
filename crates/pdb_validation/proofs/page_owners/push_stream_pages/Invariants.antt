use Rattle.std.proofs.Common.{◌≡◌, ◌++◌, map}
use Rattle.std.specs.List.{range_with_len}
use Rattle.pdb_validation.specs.PageOwners.{owner_at}
use Rattle.pdb_validation.proofs.page_owners.push_stream_pages.Given as goal

abbrev pub invariant-loop-place : goal.invariant-loop-place
invariant-loop-place l = l.owners.items ≡ l.initial.owners.items
    ++ map (owner_at l.number l.page_size l.pages) (range_with_len 0 l.place)
