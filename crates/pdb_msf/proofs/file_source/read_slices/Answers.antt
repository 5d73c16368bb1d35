use Rattle.std.proofs.Common.{◌≡◌, ◌++◌, get_or, map, slice_index, arith, sym, subst, ◌∙◌}
use Rattle.std.specs.Prelude.{IsTrue}
use Rattle.pdb_msf.specs.Source.{slice_positions}
use Rattle.pdb_msf.specs.ReadAt.{FileContents}
use Rattle.pdb_msf.proofs.PositionLemmas.{nowhere, length-positions_more}
use Rattle.pdb_msf.proofs.ReadLemmas.{slices_more}
use Rattle.pdb_msf.proofs.file_source.read_slices.Goals as goal

pub loop-slice-preserved : goal.loop-slice-preserved
loop-slice-preserved g c =
    let i = c.loop-slice.invariant in
    let next = c.in_ok-run.ensures in
    let slices = c.args.slices.now in
    let place = c.loop-slice.slice-index in
    let run = c.loop-slice.run in
    let more = length-positions_more slices place nowhere (omega (arith, c.loop-slice-test.true)) in
    record {
      kept = next.kept ∙ i.kept;
      within = next.within;
      read = λ fixed.
          slices_more (g.F.ReadAt.contents c.args.file.now).bytes slices place run c.in_ok-run.run'
          c.loop-slice.bytes.items c.continued.new.bytes.items (omega (arith, c.loop-slice-test.true)) (i.read fixed)
          (subst (λ (f : FileContents). c.continued.new.bytes.items
          ++ map (slice_index f.bytes) (slice_positions c.in_ok-run.run')
          ≡ c.loop-slice.bytes.items ++ map (slice_index f.bytes)
          (slice_positions run ++ slice_positions (get_or slices place nowhere))) i.kept
          (next.read (subst (λ (f : FileContents). IsTrue f.is_fixed) (sym i.kept) fixed)));
      len = omega (arith, i.len, next.len, more);
    }
