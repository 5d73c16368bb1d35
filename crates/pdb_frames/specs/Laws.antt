-- The definitions, stated in other words.
use Rattle.std.specs.Prelude.{◌≡◌, ◌↔◌, ℕ, ◌+◌, ◌<◌, ◌≤◌, Bool, IsTrue, List, [], ◌∷◌, length, map, Option, Some, None}
use Rattle.std.specs.Prelude.{Result, Ok, count_by}
use Rattle.std.specs.declared.cmp.Ordering.{Ordering}
use Rattle.std.specs.Ordering.{nat_cmp}
use Rattle.std.specs.List.Sorted.{IsNonDecreasingBy, IsStrictlyIncreasing}
use Rattle.pdb_frames.specs.Span.{Span, covers}
use Rattle.pdb_frames.specs.FrameNumbers.{frame_type_number}
use Rattle.pdb_frames.specs.Frames.{of_old, of_new}
use Rattle.pdb_frames.specs.Merge.{by_start, by_heads, merge}
use Rattle.pdb_frames.specs.Table.{Frames}
use Rattle.pdb_frames.specs.declared.frame_type.FrameType.{FrameType}
use Rattle.pdb_frames.specs.declared.frame_data.FrameData.{FrameData}
use Rattle.pdb_frames.specs.declared.old_frame_data.OldFrameData.{OldFrameData}
use Rattle.pdb_frames.specs.declared.new_frame_data.NewFrameData.{NewFrameData}

-- Code covers the addresses from its start to before its end, wherever the end is.
abbrev pub CoversToItsEnd : Span → ℕ → Type 0
CoversToItsEnd span address = IsTrue (covers span address) ↔
    ((span.start ≤ address) × (address < span.start + span.size))

-- `by_start` gives the same frames, of which as many pass any test as before,
-- and their starts don't decrease.
pub record IsSortedByStart (frames : List FrameData) : Type 0 where
  pub same : (test : FrameData → Bool) → count_by test (by_start frames) ≡ count_by test frames
  pub rises : IsNonDecreasingBy (λ frame. frame.code_start) (by_start frames)

-- What holds if the starts of both streams increase: comparing heads gives the merged frames,
-- which are all new ones and those old ones whose start no new one has, ordered by start, and the
-- starts of the result increase.
pub record IsMerged (frames : Frames) : Type 0 where
  pub same : by_heads frames.old frames.new ≡ merge frames.old frames.new
  pub increases : IsStrictlyIncreasing (map (λ frame. frame.code_start) (merge frames.old frames.new))

-- The frames are those of all new records, in the order of the records, and of some old ones, in theirs.
pub data IsWoven : List OldFrameData → List NewFrameData → List FrameData → Type 0 where
  end : IsWoven [] [] []
  takes_new : {frame : NewFrameData} {old : List OldFrameData} {new : List NewFrameData} {frames : List FrameData}
      → IsWoven old new frames → IsWoven old (frame ∷ new) (of_new frame ∷ frames)
  takes_old : {frame : OldFrameData} {old : List OldFrameData} {new : List NewFrameData} {frames : List FrameData}
      → IsWoven old new frames → IsWoven (frame ∷ old) new (of_old frame ∷ frames)
  drops_old : {frame : OldFrameData} {old : List OldFrameData} {new : List NewFrameData} {frames : List FrameData}
      → IsWoven old new frames → IsWoven (frame ∷ old) new frames

-- None is yielded only if nothing is left, and then nothing is left after it either. A step
-- that yields a frame leaves fewer.
pub record FramesEndForGood {E : Type 0} (left : List FrameData) (result : Result (Option FrameData) E)
    (others : List FrameData) : Type 0 where
  pub ends : result ≡ Ok None → (left ≡ []) × (others ≡ [])
  pub shorter : (frame : FrameData) → result ≡ Ok (Some frame) → length others < length left

-- Kinds compare as their numbers do, and are equal if and only if they are the same kind.
pub record ComparesByNumber (eq : FrameType → FrameType → Bool)
    (compared : FrameType → FrameType → Ordering) : Type 0 where
  pub equal : (a b : FrameType) → IsTrue (eq a b) ↔ (a ≡ b)
  pub order : (a b : FrameType) → compared a b ≡ nat_cmp (frame_type_number a) (frame_type_number b)
