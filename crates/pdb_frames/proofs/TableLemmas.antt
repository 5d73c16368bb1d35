-- What is answered of a table whose starts increase.
use Rattle.std.proofs.Common.{◌≡◌, ℕ, zero, suc, List, [], ◌∷◌, map, drop, refl, ◌∙◌}
use Rattle.std.specs.List.Sorted.{IsStrictlyIncreasing}
use Rattle.pdb_frames.specs.Span.{from_address, IsEnd}
use Rattle.pdb_frames.specs.Stored.{old_span, new_span}
use Rattle.pdb_frames.specs.Merge.{merge, by_heads}
use Rattle.pdb_frames.specs.Table.{Frames, StartsIncrease, BeginsSomewhere, merge_from}
use Rattle.pdb_frames.specs.declared.old_frame_data.OldFrameData.{OldFrameData}
use Rattle.pdb_frames.specs.declared.new_frame_data.NewFrameData.{NewFrameData}
use Rattle.pdb_frames.proofs.Rising.{Rising, rising, rising-drop}
use Rattle.pdb_frames.proofs.MergeLemmas.{old_starts, new_starts, merge-is}

pub all_merged : (frames : Frames) → StartsIncrease frames
    → by_heads frames.old frames.new ≡ merge frames.old frames.new
all_merged frames up = merge-is frames.old frames.new (rising (old_starts frames.old) up.old)
    (rising (new_starts frames.new) up.new)

map-drop : {A B : Type 0} (f : A → B) (k : ℕ) (xs : List A) → map f (drop k xs) ≡ drop k (map f xs)
map-drop f zero xs = refl
map-drop f (suc k) [] = refl
map-drop f (suc k) (x ∷ xs) = map-drop f k xs

-- an end of records that rise rises
end-rises : {A : Type 0} (start : A → ℕ) (end whole : List A) → IsEnd end whole → Rising (map start whole)
    → Rising (map start end)
end-rises start end whole is up = rw (is.1, map-drop start is.0 whole) (rising-drop is.0 (map start whole) up)

-- ends of both streams, which are those from the address on where starts increase
pub end_merged : (address : ℕ) (frames : Frames) (old : List OldFrameData) (new : List NewFrameData)
    → StartsIncrease frames
    → (IsStrictlyIncreasing (old_starts frames.old) → old ≡ from_address old_span address frames.old)
    → (IsStrictlyIncreasing (new_starts frames.new) → new ≡ from_address new_span address frames.new)
    → IsEnd old frames.old → IsEnd new frames.new → by_heads old new ≡ merge_from address frames
unfolding merge_from
end_merged address frames old new up exact_old exact_new end_old end_new =
    merge-is old new (end-rises (λ (frame : OldFrameData). frame.code_start) old frames.old end_old
    (rising (old_starts frames.old) up.old)) (end-rises
    (λ (frame : NewFrameData). frame.code_start) new frames.new end_new (rising (new_starts frames.new) up.new))
    ∙ rw (exact_old up.old, exact_new up.new) refl

pub end_somewhere : (frames : Frames) (old : List OldFrameData) (new : List NewFrameData) → IsEnd old frames.old
    → IsEnd new frames.new → BeginsSomewhere frames (by_heads old new)
end_somewhere frames old new end_old end_new = (end_old.0, end_new.0, rw (← end_old.1, ← end_new.1) refl)
