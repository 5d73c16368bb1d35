use Rattle.std.proofs.Common.{◌≡◌, sym}
use Rattle.pdb_frames.specs.Stored.{old_frames, new_frames}
use Rattle.pdb_frames.specs.Table.{Frames}
use Rattle.pdb_frames.proofs.TableLemmas.{end_merged}
use Rattle.pdb_frames.proofs.frame_table.FrameTable.iter_at_rva.Goals as goal

pub returns-clause-merged : goal.returns-clause-merged
returns-clause-merged c up =
    let frames : Frames = record { old = old_frames c.bytes_of.result.now; new = new_frames c.bytes_of-2.result.now } in
    let is : c.args.self.now ≡ frames = rw (c.bytes_of.ensures, c.bytes_of-2.ensures) (sym c.self.view_is) in
    rw (← c.rva.view_is, is) (end_merged _ frames _ _
    (rw is at up) c.starting_at.ensures.exact c.starting_at-2.ensures.exact c.starting_at.ensures.end
    c.starting_at-2.ensures.end)
