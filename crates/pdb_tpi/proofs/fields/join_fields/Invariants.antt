use Rattle.std.proofs.Common.{map}
use Rattle.pdb_base.specs.Count.{calls_of}
use Rattle.pdb_values.specs.TypeView.{type_value}
use Rattle.pdb_tpi.specs.LookUp.{answers, reads_in}
use Rattle.pdb_tpi.specs.LookedUp.{lists_looked_up}
use Rattle.pdb_tpi.proofs.ChainLemmas.{Follows}
use Rattle.pdb_tpi.proofs.LookedUpLemmas.{AreLeft, behind_list}
use Rattle.pdb_tpi.proofs.fields.join_fields.Given as goal

abbrev pub invariant-loop-continuation : goal.invariant-loop-continuation
invariant-loop-continuation l =
    let look = answers l.fn.types in
    record {
      follows : Follows look l.fn.index.0 (map type_value l.fields.items) l.above.0 l.continuation;
      left : AreLeft look (reads_in l.fn.types) (lists_looked_up look l.fn.index.0) (calls_of l.fn.count)
          (behind_list look l.above.0 l.continuation) (calls_of l.count);
    }

abbrev pub decreases-loop-continuation : goal.decreases-loop-continuation
decreases-loop-continuation l = l.above.0
