use Rattle.std.proofs.Common.{arith}
use Rattle.pdb_msf.proofs.JoinLemmas.{can_more, join_more}
use Rattle.pdb_msf.proofs.in_place.join.Goals as goal

pub loop-slice-preserved : goal.loop-slice-preserved
loop-slice-preserved c =
    let can = can_more _ _ c.args.slices.now _ _ c.loop-slice-test.true c.loop-slice.invariant.can in
    record {
      can = can.rest;
      is = join_more _ _ _ _ _ _ _ c.loop-slice-test.true c.loop-slice.invariant.is c.move_down.ensures can.ahead
          can.within;
      within = omega (arith, can.ahead, can.within);
    }
