use Rattle.std.proofs.Common.{lit<}
use Rattle.pdb_frames.specs.Stored.{old_frame, new_frame}
use Rattle.pdb_frames.specs.declared.old_frame_data.TheConstants.{OLD_SIZE}
use Rattle.pdb_frames.specs.declared.new_frame_data.TheConstants.{NEW_SIZE}
use Rattle.pdb_base.proofs.lemmas.Records.{none_where_empty}
use Rattle.pdb_frames.proofs.frame_table.FrameTable.is_empty.Goals as goal

pub returns-then-is_empty : goal.returns-then-is_empty
returns-then-is_empty c =
    let old = none_where_empty OLD_SIZE old_frame _ _ (lit< tt) c.self.invariant.0
    (rw c.bytes_of.ensures at c.is_empty.ensures) in
    let new = none_where_empty NEW_SIZE new_frame _ _ (lit< tt) c.self.invariant.1
    (rw c.bytes_of-then-is_empty.ensures at c.is_empty-then-is_empty.ensures) in
    rw (← c.self.view_is) (λ empty. (old.0 c.if-is_empty.true, new.0 empty), λ none. new.1 none.1)
