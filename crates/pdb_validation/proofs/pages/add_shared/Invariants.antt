use Rattle.std.proofs.Common.{◌≡◌, List, [], drop}
use Rattle.pdb_validation.specs.Mismatch.{with_further}
use Rattle.pdb_validation.specs.Pages.{shared_pages}
use Rattle.pdb_validation.specs.declared.page_owners.PageOwner.{PageOwner}
use Rattle.pdb_validation.proofs.PageLemmas.{IsMarked}
use Rattle.pdb_validation.proofs.pages.add_shared.Given as goal

abbrev pub invariant-loop-owner : goal.invariant-loop-owner
invariant-loop-owner l = (before : List PageOwner) × IsMarked l.count before l.owned.items
    × (with_further l.extent l.mismatches.items (shared_pages l.page_size l.count before (drop l.owner-index l.owners))
    ≡ with_further l.extent l.initial.mismatches.items (shared_pages l.page_size l.count [] l.owners))
