use Rattle.std.proofs.Common.{◌≡◌, drop}
use Rattle.pdb_msf.specs.Source.{IsFixed, IsKept}
use Rattle.pdb_validation.specs.FreeMap.{IsMapOf}
use Rattle.pdb_validation.specs.Mismatch.{with_further}
use Rattle.pdb_validation.specs.Pages.{free_pages}
use Rattle.pdb_validation.proofs.pages.add_free.Given as goal

abbrev pub invariant-loop-owner : goal.invariant-loop-owner
invariant-loop-owner g l =
    let old = g.S.Source.state l.fn.source.source in
    record {
      kept : IsKept old (g.S.Source.state l.source.source);
      map : IsFixed old → IsMapOf old.bytes l.free;
      sized : l.free.page_size ≡ l.fn.free.page_size;
      told : IsFixed old →
          with_further l.extent l.mismatches.items
          (free_pages old.bytes l.fn.free.page_size (drop l.owner-index l.owners))
          ≡ with_further l.extent l.initial.mismatches.items (free_pages old.bytes l.fn.free.page_size l.owners);
    }
