-- The lines of the items before the iterator stand there.
use Rattle.pdbdump_tables.proofs.ListingLemmas.{IsSoFar}
use Rattle.pdb_tpi.specs.Steps.{items_left}
use Rattle.pdbdump_tables.proofs.item_listing.list_items.Given as goal

abbrev pub invariant-loop-line : goal.invariant-loop-line
invariant-loop-line g l = IsSoFar l.form l.table l.items l.initial.out l.out

abbrev pub decreases-loop-line : goal.decreases-loop-line
decreases-loop-line g l = items_left l.items
