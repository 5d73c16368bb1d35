-- The laws of frames.
use Rattle.std.proofs.Common.{◌≡◌, ℕ, ◌+◌, ◌-◌, ◌<◌, ◌≤◌, true, false, ◌&&◌, ltb, leb, eqb, cond, List, [], ◌∷◌, length}
use Rattle.std.proofs.Common.{map, Option, Some, None, Result, Ok, refl, sym, ◌∙◌, arith}
use Rattle.std.proofs.lemmas.Bool.Decides.{nat_tests}
use Rattle.pdb_frames.specs.Span.{Span}
use Rattle.pdb_frames.specs.Frames.{of_old, of_new}
use Rattle.pdb_frames.specs.Merge.{with_old, by_heads}
use Rattle.pdb_frames.specs.Table.{Frames, StartsIncrease, IsFrameStep}
use Rattle.pdb_frames.specs.Laws.{CoversToItsEnd, IsMerged, IsWoven, end, takes_new, takes_old, drops_old}
use Rattle.pdb_frames.specs.Laws.{FramesEndForGood}
use Rattle.pdb_frames.proofs.Rising.{rising, increasing}
use Rattle.pdb_frames.proofs.MergeLemmas.{old_starts, new_starts, frame_starts, rising-by_heads}
use Rattle.pdb_frames.proofs.TableLemmas.{all_merged}
use Rattle.pdb_frames.specs.declared.frame_data.FrameData.{FrameData}
use Rattle.pdb_frames.specs.declared.old_frame_data.OldFrameData.{OldFrameData}
use Rattle.pdb_frames.specs.declared.new_frame_data.NewFrameData.{NewFrameData}

covers_from : (start size address : ℕ) → (leb start address && ltb (address - start) size) ≡ true → (start ≤ address)
    × (address < start + size)
covers_from start size address test = (grind (arith, nat_tests), grind (arith, nat_tests))

covers_to : (start size address : ℕ) → start ≤ address → address < start + size
    → (leb start address && ltb (address - start) size) ≡ true
covers_to start size address low high = grind (arith, nat_tests)

pub covers_to_its_end : (span : Span) (address : ℕ) → CoversToItsEnd span address
covers_to_its_end span address = (
  covers_from span.start span.size address,
  λ within. covers_to span.start span.size address within.0 within.1,
)

-- ---- weaving

all_new : (new : List NewFrameData) → IsWoven [] new (map of_new new)
all_new [] = end
all_new (frame ∷ new) = takes_new (all_new new)

woven_old : (frame : OldFrameData) (old : List OldFrameData)
    → ((new : List NewFrameData) → IsWoven old new (by_heads old new)) → (new : List NewFrameData)
    → IsWoven (frame ∷ old) new (with_old frame (by_heads old) new)
woven_old frame old others [] = takes_old (others [])
woven_old frame old others (first ∷ new) =
    elim (ltb first.code_start frame.code_start) as
    (λ b. IsWoven (frame ∷ old) (first ∷ new)
    (cond b (of_new first ∷ with_old frame (by_heads old) new)
    (cond (eqb first.code_start frame.code_start) (of_new first ∷ by_heads old new)
    (of_old frame ∷ by_heads old (first ∷ new))))) [
      | true ↦ takes_new (woven_old frame old others new)
      | false ↦ elim (eqb first.code_start frame.code_start) as
          (λ b. IsWoven (frame ∷ old) (first ∷ new)
          (cond b (of_new first ∷ by_heads old new) (of_old frame ∷ by_heads old (first ∷ new)))) [
            | true ↦ drops_old (takes_new (others new))
            | false ↦ takes_old (others (first ∷ new))
          ]
    ]

pub is_woven : (old : List OldFrameData) (new : List NewFrameData) → IsWoven old new (by_heads old new)
is_woven [] new = all_new new
is_woven (frame ∷ old) new = woven_old frame old (is_woven old) new

-- ---- steps

abbrev ok_of : {A E : Type 0} → Option A → Result (Option A) E
ok_of x = Ok x

some_is_none : {A E : Type 0} {x : A} → ok_of {E = E} (Some x) ≡ Ok None → ⊥
some_is_none e = cc

none_is_some : {A E : Type 0} {x : A} → ok_of {E = E} None ≡ Ok (Some x) → ⊥
none_is_some e = cc

step_ends : {E : Type 0} (left others : List FrameData) (result : Result (Option FrameData) E)
    → IsFrameStep left result others → result ≡ Ok None → (left ≡ []) × (others ≡ [])
step_ends [] others result step none = (refl, step.others)
step_ends (frame ∷ left) others result step none = absurd (some_is_none (sym step.first ∙ none))

step_shorter : {E : Type 0} (left others : List FrameData) (result : Result (Option FrameData) E)
    → IsFrameStep left result others → (frame : FrameData) → result ≡ Ok (Some frame) → length others < length left
step_shorter [] others result step frame some = absurd (none_is_some (sym step.first ∙ some))
step_shorter (first ∷ left) others result step frame some = rw step.others (omega arith)

pub ends_for_good : {E : Type 0} (left others : List FrameData) (result : Result (Option FrameData) E)
    → IsFrameStep left result others → FramesEndForGood left result others
ends_for_good left others result step = record
    { ends = step_ends left others result step; shorter = step_shorter left others result step }

-- ---- merging

pub is_merged : (frames : Frames) → StartsIncrease frames → IsMerged frames
is_merged frames up =
    let same = all_merged frames up in
    let old = rising (old_starts frames.old) up.old in
    let new = rising (new_starts frames.new) up.new in
    record {
      same = same;
      increases = rw (← same)
          (increasing (frame_starts (by_heads frames.old frames.new)) (rising-by_heads frames.old frames.new old new));
    }
