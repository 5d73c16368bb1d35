use Rattle.std.proofs.Common.{◌≡◌, ◌++◌, map, take}
use Rattle.pdb_validation.specs.PageOwners.{container_owner}
use Rattle.pdb_validation.proofs.page_owners.push_container_pages.Given as goal

abbrev pub invariant-loop-page : goal.invariant-loop-page
invariant-loop-page l = l.owners.items ≡ l.initial.owners.items ++ map container_owner (take l.page-index l.pages)
