use Rattle.std.proofs.Common.{arith}
use Rattle.pdb_msf.proofs.JoinLemmas.{move_more}
use Rattle.pdb_msf.proofs.in_place.move_down.Goals as goal

pub loop-moved-preserved : goal.loop-moved-preserved
loop-moved-preserved c = record {
  most = omega (arith, c.loop-moved.invariant.most, c.min-count.ensures);
  is = move_more _ _ _ _ _ _ _ c.loop-moved.invariant.is c.move_piece.ensures
      (omega (arith, c.requires.down, c.min-count.ensures));
}
