-- One list of frames, merged from the old records and the new ones.
use Rattle.std.specs.Prelude.{ℕ, Bool, ◌==◌, nat_le, nat_lt, not, if◌then◌else◌, List, [], ◌∷◌, ◌++◌, map, filter}
use Rattle.std.specs.List.{list_any}
use Rattle.pdb_frames.specs.Frames.{of_old, of_new}
use Rattle.pdb_frames.specs.declared.frame_data.FrameData.{FrameData}
use Rattle.pdb_frames.specs.declared.old_frame_data.OldFrameData.{OldFrameData}
use Rattle.pdb_frames.specs.declared.new_frame_data.NewFrameData.{NewFrameData}

-- the frames with one more, which is put before the first frame that doesn't start below it
abbrev pub insert_by_start : FrameData → List FrameData → List FrameData
insert_by_start frame [] = frame ∷ []
insert_by_start frame (first ∷ others) =
    if nat_le frame.code_start first.code_start then frame ∷ first ∷ others else first
    ∷ insert_by_start frame others

-- the frames ordered by their starts
abbrev pub by_start : List FrameData → List FrameData
by_start [] = []
by_start (frame ∷ frames) = insert_by_start frame (by_start frames)

-- whether some new record starts at an address
abbrev pub some_starts_at : List NewFrameData → ℕ → Bool
some_starts_at new address = list_any (λ frame. frame.code_start == address) new

-- the frames of all new records, and of the old records whose start no new record has
abbrev pub frames_of_both : List OldFrameData → List NewFrameData → List FrameData
frames_of_both old new = map of_new new ++ map of_old (filter (λ frame. not (some_starts_at new frame.code_start)) old)

-- these frames ordered by their starts
unfoldable pub merge : List OldFrameData → List NewFrameData → List FrameData
merge old new = by_start (frames_of_both old new)

-- The merge of an old record, of new ones and of the frames that `others` makes of the new ones
-- that are left: the new records that start below the old one come first, and one that starts at
-- the same address takes its place.
abbrev pub with_old : OldFrameData → (List NewFrameData → List FrameData) → List NewFrameData → List FrameData
with_old frame others [] = of_old frame ∷ others []
with_old frame others (first ∷ new) =
    if nat_lt first.code_start frame.code_start then of_new first ∷ with_old frame others new
    else (if first.code_start == frame.code_start then of_new first ∷ others new else of_old frame
    ∷ others (first ∷ new))

-- The merge of both lists by comparing their heads again and again: the one that starts lower comes next. Of
-- two that start at the same address the new one comes next, and the old one is dropped.
abbrev pub by_heads : List OldFrameData → List NewFrameData → List FrameData
by_heads [] new = map of_new new
by_heads (frame ∷ old) new = with_old frame (by_heads old) new
