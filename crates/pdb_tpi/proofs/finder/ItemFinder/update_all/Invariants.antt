use Rattle.std.proofs.Common.{◌≡◌, ◌≤◌, map, take}
use Rattle.pdb_tpi.specs.Steps.{WalkPosition}
use Rattle.pdb_tpi.specs.Finder.{known_of, most_blocks}
use Rattle.pdb_tpi.proofs.finder.ItemFinder.update_all.Given as goal

abbrev pub invariant-loop-iterator : goal.invariant-loop-iterator
invariant-loop-iterator g l =
    record {
      is : l.self ≡ record l.fn.self {
        known = known_of l.fn.self.table l.fn.self.known
            (map (λ (s : WalkPosition). s.index) (take l.iterator-index l.iterators));
      };
      few : l.fn.self.known ≤ most_blocks l.fn.self.table → l.self.known ≤ most_blocks l.self.table;
    }
