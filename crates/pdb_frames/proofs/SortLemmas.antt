-- Frames put by their starts.
use Rattle.std.proofs.Common.{◌≡◌, ℕ, zero, suc, ◌+◌, ◌<◌, ◌≤◌, inl, inr, Bool, true, false, leb, cond, List, [], ◌∷◌}
use Rattle.std.proofs.Common.{length, count_by, get_or, refl, sym, ap, ◌∙◌, arith}
use Rattle.std.proofs.lemmas.Bool.{cases_lt, le-leb, lt-leb}
use Rattle.std.proofs.lemmas.List.Sums.{sum_by-cons}
use Rattle.pdb_frames.specs.Merge.{insert_by_start, by_start}
use Rattle.pdb_frames.specs.Laws.{IsSortedByStart}
use Rattle.pdb_frames.specs.declared.frame_data.FrameData.{FrameData}

-- ---- order

abbrev AllFrom : ℕ → List FrameData → Type 0
AllFrom low [] = Unit {0}
AllFrom low (frame ∷ frames) = (low ≤ frame.code_start) × AllFrom low frames

abbrev IsOrdered : List FrameData → Type 0
IsOrdered [] = Unit {0}
IsOrdered (frame ∷ frames) = AllFrom frame.code_start frames × IsOrdered frames

from-lower : (low high : ℕ) (frames : List FrameData) → low ≤ high → AllFrom high frames → AllFrom low frames
from-lower low high [] lower all = tt
from-lower low high (frame ∷ frames) lower all = (omega (arith, lower, all.0), from-lower low high frames lower all.1)

from-insert_by_start : (low : ℕ) (frame : FrameData) (frames : List FrameData) → low ≤ frame.code_start
    → AllFrom low frames
    → AllFrom low (insert_by_start frame frames)
from-insert_by_start low frame [] here all = (here, tt)
from-insert_by_start low frame (first ∷ others) here all =
    elim (leb frame.code_start first.code_start) as
    (λ b. AllFrom low (cond b (frame ∷ first ∷ others) (first ∷ insert_by_start frame others))) [
      | true ↦ (here, all)
      | false ↦ (all.0, from-insert_by_start low frame others here all.1)
    ]

ordered-insert_by_start : (frame : FrameData) (frames : List FrameData) → IsOrdered frames
    → IsOrdered (insert_by_start frame frames)
ordered-insert_by_start frame [] in_order = (tt, tt)
ordered-insert_by_start frame (first ∷ others) in_order = elim (cases_lt first.code_start frame.code_start) [
  | inl lower ↦
      let test : leb frame.code_start first.code_start ≡ false = lt-leb frame.code_start first.code_start lower in
      rw test (
        from-insert_by_start first.code_start frame others (omega (arith, lower)) in_order.0,
        ordered-insert_by_start frame others in_order.1,
      )
  | inr higher ↦
      let test : leb frame.code_start first.code_start ≡ true = le-leb frame.code_start first.code_start higher in
      rw test ((higher, from-lower frame.code_start first.code_start others higher in_order.0), in_order)
]

ordered-by_start : (frames : List FrameData) → IsOrdered (by_start frames)
ordered-by_start [] = tt
ordered-by_start (frame ∷ frames) = ordered-insert_by_start frame (by_start frames) (ordered-by_start frames)

from-get : (low : ℕ) (frames : List FrameData) (k : ℕ) (d : FrameData) → AllFrom low frames → k < length frames
    → low ≤ (get_or frames k d).code_start
from-get low [] k d all within = absurd (omega (arith, within))
from-get low (frame ∷ frames) zero d all within = all.0
from-get low (frame ∷ frames) (suc k) d all within = from-get low frames k d all.1 (omega (arith, within))

rises : (frames : List FrameData) → IsOrdered frames → (i j : ℕ) (d : FrameData) → i ≤ j → j < length frames
    → (get_or frames i d).code_start ≤ (get_or frames j d).code_start
rises [] in_order i j d before within = absurd (omega (arith, within))
rises (frame ∷ frames) in_order zero zero d before within = omega arith
rises (frame ∷ frames) in_order zero (suc j) d before within =
    from-get frame.code_start frames j d in_order.0 (omega (arith, within))
rises (frame ∷ frames) in_order (suc i) zero d before within = absurd (omega (arith, before))
rises (frame ∷ frames) in_order (suc i) (suc j) d before within =
    rises frames in_order.1 i j d (omega (arith, before)) (omega (arith, within))

-- ---- the same frames

count-cons : (test : FrameData → Bool) (frame : FrameData) (frames : List FrameData)
    → count_by test (frame ∷ frames) ≡ cond (test frame) 1 0 + count_by test frames
count-cons test frame frames = sum_by-cons (λ (x : FrameData). cond (test x) 1 0) frame frames

count-later : (test : FrameData → Bool) (frame : FrameData) (one other : List FrameData)
    → count_by test one ≡ count_by test other → count_by test (frame ∷ one) ≡ count_by test (frame ∷ other)
count-later test frame one other same = count-cons test frame one ∙ ap (λ n. cond (test frame) 1 0 + n) same
    ∙ sym (count-cons test frame other)

swap-sum : (a b c : ℕ) → a + (b + c) ≡ b + (a + c)
swap-sum a b c = omega arith

count-swap : (test : FrameData → Bool) (frame other : FrameData) (frames : List FrameData)
    → count_by test (other ∷ frame ∷ frames) ≡ count_by test (frame ∷ other ∷ frames)
count-swap test frame other frames =
    let left = count-cons test other (frame ∷ frames)
    ∙ ap (λ n. cond (test other) 1 0 + n) (count-cons test frame frames) in
    let right = count-cons test frame (other ∷ frames)
    ∙ ap (λ n. cond (test frame) 1 0 + n) (count-cons test other frames) in
    left ∙ swap-sum (cond (test other) 1 0) (cond (test frame) 1 0) (count_by test frames) ∙ sym right

count-insert_by_start : (test : FrameData → Bool) (frame : FrameData) (frames : List FrameData)
    → count_by test (insert_by_start frame frames) ≡ count_by test (frame ∷ frames)
count-insert_by_start test frame [] = refl
count-insert_by_start test frame (first ∷ others) =
    let moved = count-later test first (insert_by_start frame others) (frame ∷ others)
    (count-insert_by_start test frame others)
    ∙ count-swap test frame first others in
    elim (leb frame.code_start first.code_start) as
    (λ b. count_by test (cond b (frame ∷ first ∷ others) (first ∷ insert_by_start frame others))
    ≡ count_by test (frame ∷ first ∷ others)) [ true ↦ refl | false ↦ moved ]

count-by_start : (test : FrameData → Bool) (frames : List FrameData)
    → count_by test (by_start frames) ≡ count_by test frames
count-by_start test [] = refl
count-by_start test (frame ∷ frames) = count-insert_by_start test frame (by_start frames)
    ∙ count-later test frame (by_start frames) frames (count-by_start test frames)

pub sorted_by_start : (frames : List FrameData) → IsSortedByStart frames
sorted_by_start frames = record {
  same = λ test. count-by_start test frames;
  rises = rises (by_start frames) (ordered-by_start frames);
}
