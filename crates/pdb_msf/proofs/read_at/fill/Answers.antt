use Rattle.std.proofs.Common.{ℕ, length-drop, arith, refl, ◌∙◌}
use Rattle.std.proofs.lemmas.List.{length-take}
use Rattle.pdb_msf.proofs.ReadLemmas.{filled_more, same_read}
use Rattle.pdb_msf.proofs.read_at.fill.Goals as goal

pub loop-filled-preserved : goal.loop-filled-preserved
loop-filled-preserved g c =
    let i = c.loop-filled.invariant in
    let read = c.in_ok-count.ensures.read in
    let here = same_read (g.F.ReadAt.contents c.args.file.now) _ _ _ _ _ _ i.kept refl read in
    record {
      kept = c.in_ok-count.ensures.kept ∙ i.kept;
      within = omega (arith, read.within, length-take {A = ℕ}, length-drop {A = ℕ});
      read = λ fixed.
          filled_more (g.F.ReadAt.contents c.args.file.now) c.args.offset c.loop-filled.filled c.in_ok-count.count
          c.loop-filled.room c.read_uninterrupted.new.room _ (omega arith)
          (omega (arith, read.within, c.read_uninterrupted.auto.room)) (i.read fixed) (here.bytes fixed);
    }
