use Rattle.std.proofs.Common.{◌≡◌, ◌+◌, ◌++◌, arith, sym, subst, ◌∙◌}
use Rattle.std.specs.Prelude.{IsTrue}
use Rattle.pdb_msf.specs.ReadAt.{FileContents, bytes_from}
use Rattle.pdb_msf.proofs.ReadLemmas.{appended_more}
use Rattle.pdb_msf.proofs.file_source.append_run.Goals as goal

pub loop-read-preserved : goal.loop-read-preserved
loop-read-preserved g c =
    let i = c.loop-read.invariant in
    let piece = c.in_ok-append_piece.ensures in
    let file = g.F.ReadAt.contents c.args.file.now in
    record {
      kept = piece.kept ∙ i.kept;
      within = omega (arith, c.min-count.ensures);
      read = λ fixed.
          appended_more file c.args.run.offset c.loop-read.read c.min-count.result c.args.bytes.now.items
          c.loop-read.bytes.items c.append_piece.new.bytes.items (i.read fixed)
          (subst (λ (f : FileContents). c.append_piece.new.bytes.items ≡ c.loop-read.bytes.items
          ++ bytes_from f (c.args.run.offset + c.loop-read.read) c.min-count.result) i.kept
          (piece.read (subst (λ (f : FileContents). IsTrue f.is_fixed) (sym i.kept) fixed)));
      len = omega (arith, i.len, piece.len);
    }
