-- A table of frames: what its two streams hold, and what frames it yields.
use Rattle.std.specs.Prelude.{◌≡◌, ℕ, ◌%◌, ◌==◌, List, [], length, map, drop, codes, Option, unwrap_or, Result, Ok}
use Rattle.std.specs.Prelude.{slice_get}
use Rattle.std.specs.List.Sorted.{IsStrictlyIncreasing}
use Rattle.pdb_base.specs.Refusal.{invalid_stream_length}
use Rattle.pdb_base.specs.Answer.{Answer, ◌>>=◌, ok_if}
use Rattle.pdb_frames.specs.Span.{from_address}
use Rattle.pdb_frames.specs.Stored.{old_frames, new_frames, old_span, new_span}
use Rattle.pdb_frames.specs.Merge.{merge, by_heads}
use Rattle.pdb_frames.specs.declared.frame_data.FrameData.{FrameData}
use Rattle.pdb_frames.specs.declared.old_frame_data.OldFrameData.{OldFrameData}
use Rattle.pdb_frames.specs.declared.new_frame_data.NewFrameData.{NewFrameData}
use Rattle.pdb_frames.specs.declared.old_frame_data.TheConstants.{OLD_SIZE}
use Rattle.pdb_frames.specs.declared.new_frame_data.TheConstants.{NEW_SIZE}

-- the records of both formats, each in the order of its stream
pub record Frames : Type 0 where
  pub old : List OldFrameData
  pub new : List NewFrameData

-- The table that two streams hold, each of which must consist of whole records. A stream
-- that is absent holds no records.
unfoldable pub frame_table_of : Option (List ℕ) → Option (List ℕ) → Answer Frames
frame_table_of old new = do
  whole_old ← ok_if (length (unwrap_or old []) % OLD_SIZE == 0) (invalid_stream_length (codes "FPO"))
  whole_new ← ok_if (length (unwrap_or new []) % NEW_SIZE == 0) (invalid_stream_length (codes "FrameData"))
  Ok (record { old = old_frames (unwrap_or old []); new = new_frames (unwrap_or new []) })

-- In each stream, every record starts above the one before it.
pub record StartsIncrease (frames : Frames) : Type 0 where
  pub old : IsStrictlyIncreasing (map (λ frame. frame.code_start) frames.old)
  pub new : IsStrictlyIncreasing (map (λ frame. frame.code_start) frames.new)

-- the frames of both streams from an address on, merged
unfoldable pub merge_from : ℕ → Frames → List FrameData
merge_from address frames = merge (from_address old_span address frames.old) (from_address new_span address frames.new)

-- The frames of both streams, in each from some record on, merged by comparing their heads.
abbrev pub BeginsSomewhere : Frames → List FrameData → Type 0
BeginsSomewhere frames result = (passed_old passed_new : ℕ)
    × (result ≡ by_heads (drop passed_old frames.old) (drop passed_new frames.new))

-- A step never fails. It yields the first of the items that are left, or None at
-- the end, and leaves the others.
pub record IsFrameStep {A E : Type 0} (old : List A) (result : Result (Option A) E) (new : List A) : Type 0 where
  pub first : result ≡ Ok (slice_get old 0)
  pub others : new ≡ drop 1 old
