-- Frames merged by their heads are those that the definition gathers, by start.
use Rattle.std.proofs.Common.{◌≡◌, ℕ, ◌<◌, inl, inr, Bool, true, false, not, cond, eqb, ltb, leb, List, [], ◌∷◌, ◌++◌}
use Rattle.std.proofs.Common.{map, filter, refl, sym, ap, subst, ◌∙◌, arith}
use Rattle.std.proofs.lemmas.Bool.{cases_order, le-ltb, lt-ltb, le-leb, lt-leb, eq-eqb, ne_eqb}
use Rattle.pdb_frames.specs.Frames.{of_old, of_new}
use Rattle.pdb_frames.specs.Merge.{insert_by_start, by_start, some_starts_at, frames_of_both, merge, with_old, by_heads}
use Rattle.pdb_frames.specs.declared.frame_data.FrameData.{FrameData}
use Rattle.pdb_frames.specs.declared.old_frame_data.OldFrameData.{OldFrameData}
use Rattle.pdb_frames.specs.declared.new_frame_data.NewFrameData.{NewFrameData}
use Rattle.pdb_frames.proofs.Rising.{Above, Rising, above-lower, rising-tail}

abbrev pub old_starts : List OldFrameData → List ℕ
old_starts old = map (λ frame. frame.code_start) old

abbrev pub new_starts : List NewFrameData → List ℕ
new_starts new = map (λ frame. frame.code_start) new

abbrev pub frame_starts : List FrameData → List ℕ
frame_starts frames = map (λ frame. frame.code_start) frames

start_of_old : (frame : OldFrameData) → (of_old frame).code_start ≡ frame.code_start
unfolding of_old
start_of_old frame = refl

start_of_new : (frame : NewFrameData) → (of_new frame).code_start ≡ frame.code_start
unfolding of_new
start_of_new frame = refl

-- ---- all start above a bound

abbrev AllOver : ℕ → List FrameData → Type 0
AllOver bound [] = Unit {0}
AllOver bound (frame ∷ frames) = (bound < frame.code_start) × AllOver bound frames

over-same : (bound same : ℕ) (frames : List FrameData) → bound ≡ same → AllOver bound frames → AllOver same frames
over-same bound same frames is over = subst (λ b. AllOver b frames) is over

over-append : (bound : ℕ) (xs ys : List FrameData) → AllOver bound xs → AllOver bound ys → AllOver bound (xs ++ ys)
over-append bound [] ys over also = also
over-append bound (x ∷ xs) ys over also = (over.0, over-append bound xs ys over.1 also)

over-new : (bound : ℕ) (new : List NewFrameData) → Above bound (new_starts new) → AllOver bound (map of_new new)
over-new bound [] up = tt
over-new bound (frame ∷ new) up = (
  omega (arith, start_of_new frame, up.0),
  over-new bound new (above-lower bound frame.code_start (new_starts new) (omega (arith, up.0)) up.1),
)

over-old : (bound : ℕ) (test : OldFrameData → Bool) (old : List OldFrameData) → Above bound (old_starts old)
    → AllOver bound (map of_old (filter test old))
over-old bound test [] up = tt
over-old bound test (frame ∷ old) up =
    let later = over-old bound test old (above-lower bound frame.code_start (old_starts old) (omega (arith, up.0)) up.1)
    in
    let here : bound < (of_old frame).code_start = omega (arith, start_of_old frame, up.0) in
    elim (test frame) as (λ b. AllOver bound (map of_old (cond b (frame ∷ filter test old) (filter test old)))) [
      | true ↦
          (here, later)
      | false ↦ later
    ]

over-frames_of_both : (bound : ℕ) (old : List OldFrameData) (new : List NewFrameData) → Above bound (old_starts old)
    → Above bound (new_starts new) → AllOver bound (frames_of_both old new)
over-frames_of_both bound old new up also =
    over-append bound (map of_new new) (map of_old (filter (λ frame. not (some_starts_at new frame.code_start)) old))
    (over-new bound new also) (over-old bound (λ frame. not (some_starts_at new frame.code_start)) old up)

over-insert_by_start : (bound : ℕ) (frame : FrameData) (frames : List FrameData) → bound < frame.code_start
    → AllOver bound frames
    → AllOver bound (insert_by_start frame frames)
over-insert_by_start bound frame [] here over = (here, tt)
over-insert_by_start bound frame (first ∷ others) here over =
    elim (leb frame.code_start first.code_start) as
    (λ b. AllOver bound (cond b (frame ∷ first ∷ others) (first ∷ insert_by_start frame others))) [
      | true ↦ (here, over)
      | false ↦ (over.0, over-insert_by_start bound frame others here over.1)
    ]

over-by_start : (bound : ℕ) (frames : List FrameData) → AllOver bound frames → AllOver bound (by_start frames)
over-by_start bound [] over = tt
over-by_start bound (frame ∷ frames) over =
    over-insert_by_start bound frame (by_start frames) over.0 (over-by_start bound frames over.1)

-- ---- the lowest comes first

put_first : (frame : FrameData) (frames : List FrameData) → AllOver frame.code_start frames
    → insert_by_start frame frames ≡ frame
    ∷ frames
put_first frame [] over = refl
put_first frame (first ∷ others) over =
    let test : leb frame.code_start first.code_start ≡ true =
    le-leb frame.code_start first.code_start (omega (arith, over.0)) in
    rw test refl

put_behind : (low frame : FrameData) (frames : List FrameData) → low.code_start < frame.code_start
    → insert_by_start frame (low ∷ frames) ≡ low ∷ insert_by_start frame frames
put_behind low frame frames lower =
    let test : leb frame.code_start low.code_start ≡ false = lt-leb frame.code_start low.code_start lower in
    rw test refl

-- wherever it stands
lowest_first : (low : FrameData) (xs ys : List FrameData) → AllOver low.code_start xs → AllOver low.code_start ys
    → by_start (xs ++ low ∷ ys) ≡ low ∷ by_start (xs ++ ys)
lowest_first low [] ys over also = put_first low (by_start ys) (over-by_start low.code_start ys also)
lowest_first low (x ∷ xs) ys over also =
    ap (λ (frames : List FrameData). insert_by_start x frames) (lowest_first low xs ys over.1 also)
    ∙ put_behind low x (by_start (xs ++ ys)) over.0

-- ---- which old records are dropped

-- a new record that starts below old ones drops none of them
none_dropped : (first : NewFrameData) (new : List NewFrameData) (old : List OldFrameData)
    → Above first.code_start (old_starts old)
    → filter (λ (frame : OldFrameData). not (some_starts_at (first ∷ new) frame.code_start)) old
    ≡ filter (λ (frame : OldFrameData). not (some_starts_at new frame.code_start)) old
none_dropped first new [] up = refl
none_dropped first new (frame ∷ old) up =
    let other : eqb first.code_start frame.code_start ≡ false =
    ne_eqb first.code_start frame.code_start (λ e. absurd (omega (arith, up.0, e))) in
    let later = none_dropped first new old (above-lower first.code_start frame.code_start (old_starts old)
    (omega (arith, up.0)) up.1) in
    rw (other, later) refl

-- new records that start above an old one don't drop it
not_dropped : (bound : ℕ) (new : List NewFrameData) → Above bound (new_starts new) → some_starts_at new bound ≡ false
not_dropped bound [] up = refl
not_dropped bound (frame ∷ new) up =
    let other : eqb frame.code_start bound ≡ false =
    ne_eqb frame.code_start bound (λ e. absurd (omega (arith, up.0, e))) in
    let later = not_dropped bound new (above-lower bound frame.code_start (new_starts new) (omega (arith, up.0)) up.1)
    in
    rw (other, later) refl

new_before_all : (first : NewFrameData) (new : List NewFrameData) (old : List OldFrameData)
    → Above first.code_start (old_starts old) → frames_of_both old (first ∷ new) ≡ of_new first ∷ frames_of_both old new
new_before_all first new old up = ap (λ (kept : List OldFrameData). of_new first ∷ (map of_new new ++ map of_old kept))
    (none_dropped first new old up)

new_in_place : (frame : OldFrameData) (first : NewFrameData) (new : List NewFrameData) (old : List OldFrameData)
    → first.code_start ≡ frame.code_start → Above first.code_start (old_starts old)
    → frames_of_both (frame ∷ old) (first ∷ new) ≡ of_new first ∷ frames_of_both old new
new_in_place frame first new old same up =
    let test : eqb first.code_start frame.code_start ≡ true = eq-eqb first.code_start frame.code_start same in
    rw test (new_before_all first new old up)

old_kept : (frame : OldFrameData) (new : List NewFrameData) (old : List OldFrameData)
    → Above frame.code_start (new_starts new) → frames_of_both (frame ∷ old) new ≡ map of_new new ++ of_old frame
    ∷ map of_old (filter (λ (other : OldFrameData). not (some_starts_at new other.code_start)) old)
old_kept frame new old up = rw (not_dropped frame.code_start new up) refl

-- ---- both are one

all_new : (new : List NewFrameData) → Rising (new_starts new) → by_start (frames_of_both [] new) ≡ map of_new new
all_new [] up = refl
all_new (frame ∷ new) up =
    let over = over-same frame.code_start (of_new frame).code_start (frames_of_both [] new) (sym (start_of_new frame))
    (over-frames_of_both frame.code_start [] new tt up) in
    lowest_first (of_new frame) [] (frames_of_both [] new) tt over
    ∙ ap (λ (frames : List FrameData). of_new frame ∷ frames)
    (all_new new (rising-tail frame.code_start (new_starts new) up))

-- the two heads compared
new_lower : (frame : OldFrameData) (others : List NewFrameData → List FrameData) (first : NewFrameData)
    (new : List NewFrameData) → first.code_start < frame.code_start → with_old frame others (first ∷ new) ≡ of_new first
    ∷ with_old frame others new
new_lower frame others first new lower =
    let test : ltb first.code_start frame.code_start ≡ true = lt-ltb first.code_start frame.code_start lower in
    rw test refl

both_same : (frame : OldFrameData) (others : List NewFrameData → List FrameData) (first : NewFrameData)
    (new : List NewFrameData) → first.code_start ≡ frame.code_start → with_old frame others (first ∷ new) ≡ of_new first
    ∷ others new
both_same frame others first new same =
    let not_lower : ltb first.code_start frame.code_start ≡ false =
    le-ltb first.code_start frame.code_start (omega (arith, same)) in
    let equal : eqb first.code_start frame.code_start ≡ true = eq-eqb first.code_start frame.code_start same in
    rw (not_lower, equal) refl

old_lower : (frame : OldFrameData) (others : List NewFrameData → List FrameData) (first : NewFrameData)
    (new : List NewFrameData) → frame.code_start < first.code_start → with_old frame others (first ∷ new) ≡ of_old frame
    ∷ others (first ∷ new)
old_lower frame others first new lower =
    let not_lower : ltb first.code_start frame.code_start ≡ false =
    le-ltb first.code_start frame.code_start (omega (arith, lower)) in
    let other : eqb first.code_start frame.code_start ≡ false =
    ne_eqb first.code_start frame.code_start (λ e. absurd (omega (arith, lower, e))) in
    rw (not_lower, other) refl

-- an old record before others of which this is known
merged_old : (frame : OldFrameData) (old : List OldFrameData) → Above frame.code_start (old_starts old)
    → ((new : List NewFrameData) → Rising (new_starts new) → by_start (frames_of_both old new) ≡ by_heads old new)
    → (new : List NewFrameData) → Rising (new_starts new)
    → by_start (frames_of_both (frame ∷ old) new) ≡ with_old frame (by_heads old) new
merged_old frame old up others [] also =
    let over = over-same frame.code_start (of_old frame).code_start (frames_of_both old []) (sym (start_of_old frame))
    (over-frames_of_both frame.code_start old [] up tt) in
    lowest_first (of_old frame) [] (frames_of_both old []) tt over
    ∙ ap (λ (frames : List FrameData). of_old frame ∷ frames) (others [] tt)
merged_old frame old up others (first ∷ new) also =
    let later = rising-tail first.code_start (new_starts new) also in
    elim (cases_order first.code_start frame.code_start) [
      | inl same ↦
          let above = above-lower first.code_start frame.code_start (old_starts old) (omega (arith, same)) up in
          let over = over-same first.code_start (of_new first).code_start (frames_of_both old new)
          (sym (start_of_new first))
          (over-frames_of_both first.code_start old new above also) in
          ap by_start (new_in_place frame first new old same above)
          ∙ lowest_first (of_new first) [] (frames_of_both old new) tt over
          ∙ ap (λ (frames : List FrameData). of_new first ∷ frames) (others new later)
          ∙ sym (both_same frame (by_heads old) first new same)
      | inr (inl lower) ↦
          let over = over-same first.code_start (of_new first).code_start (frames_of_both (frame ∷ old) new)
          (sym (start_of_new first)) (over-frames_of_both first.code_start (frame ∷ old) new (lower, up) also) in
          ap by_start (new_before_all first new (frame ∷ old) (lower, up))
          ∙ lowest_first (of_new first) [] (frames_of_both (frame ∷ old) new) tt over
          ∙ ap (λ (frames : List FrameData). of_new first ∷ frames) (merged_old frame old up others new later)
          ∙ sym (new_lower frame (by_heads old) first new lower)
      | inr (inr higher) ↦
          let kept = map of_old (filter (λ (other : OldFrameData). not
          (some_starts_at (first ∷ new) other.code_start)) old) in
          let over_new = over-same frame.code_start (of_old frame).code_start (map of_new (first ∷ new))
          (sym (start_of_old frame)) (over-new frame.code_start (first ∷ new) (higher, also)) in
          let over_old = over-same frame.code_start (of_old frame).code_start kept (sym (start_of_old frame))
          (over-old frame.code_start (λ (other : OldFrameData). not
          (some_starts_at (first ∷ new) other.code_start)) old up) in
          ap by_start (old_kept frame (first ∷ new) old (higher, also))
          ∙ lowest_first (of_old frame) (map of_new (first ∷ new)) kept over_new over_old
          ∙ ap (λ (frames : List FrameData). of_old frame ∷ frames) (others (first ∷ new) also)
          ∙ sym (old_lower frame (by_heads old) first new higher)
    ]

merged : (old : List OldFrameData) (new : List NewFrameData) → Rising (old_starts old) → Rising (new_starts new)
    → by_start (frames_of_both old new) ≡ by_heads old new
merged [] new up also = all_new new also
merged (frame ∷ old) new up also = merged_old frame old up
    (λ more rises. merged old more (rising-tail frame.code_start (old_starts old) up) rises) new also

pub merge-is : (old : List OldFrameData) (new : List NewFrameData) → Rising (old_starts old) → Rising (new_starts new)
    → by_heads old new ≡ merge old new
unfolding merge
merge-is old new up also = sym (merged old new up also)

-- ---- the starts of what is merged increase

above-new : (bound : ℕ) (new : List NewFrameData) → Above bound (new_starts new)
    → Above bound (frame_starts (map of_new new))
above-new bound [] up = tt
above-new bound (frame ∷ new) up =
    rw (start_of_new frame) (up.0, above-new frame.code_start new up.1)

above-with_old : (frame : OldFrameData) (old : List OldFrameData) → Above frame.code_start (old_starts old)
    → ((bound : ℕ) (new : List NewFrameData) → Above bound (old_starts old) → Above bound (new_starts new)
    → Above bound (frame_starts (by_heads old new)))
    → (bound : ℕ) (new : List NewFrameData) → bound < frame.code_start → Above bound (new_starts new)
    → Above bound (frame_starts (with_old frame (by_heads old) new))
above-with_old frame old up others bound [] here also = rw (start_of_old frame) (here, others frame.code_start [] up tt)
above-with_old frame old up others bound (first ∷ new) here also =
    elim (cases_order first.code_start frame.code_start) [
      | inl same ↦
          let above = above-lower first.code_start frame.code_start (old_starts old) (omega (arith, same)) up in
          rw (both_same frame (by_heads old) first new same, start_of_new first)
          (also.0, others first.code_start new above also.1)
      | inr (inl lower) ↦
          rw (new_lower frame (by_heads old) first new lower, start_of_new first)
          (also.0, above-with_old frame old up others first.code_start new lower also.1)
      | inr (inr higher) ↦
          rw (old_lower frame (by_heads old) first new higher, start_of_old frame)
          (here, others frame.code_start (first ∷ new) up (higher, also.1))
    ]

pub above-by_heads : (bound : ℕ) (old : List OldFrameData) (new : List NewFrameData) → Above bound (old_starts old)
    → Above bound (new_starts new) → Above bound (frame_starts (by_heads old new))
above-by_heads bound [] new up also = above-new bound new also
above-by_heads bound (frame ∷ old) new up also =
    above-with_old frame old up.1
    (λ low more rises also_rises. above-by_heads low old more rises also_rises) bound new up.0 also

-- what increases in both streams increases
pub rising-by_heads : (old : List OldFrameData) (new : List NewFrameData) → Rising (old_starts old)
    → Rising (new_starts new) → Rising (frame_starts (by_heads old new))
rising-by_heads [] [] up also = tt
rising-by_heads [] (first ∷ new) up also = rw (start_of_new first) (above-new first.code_start new also)
rising-by_heads (frame ∷ old) [] up also = rw (start_of_old frame) (above-by_heads frame.code_start old [] up tt)
rising-by_heads (frame ∷ old) (first ∷ new) up also = elim (cases_order first.code_start frame.code_start) [
  | inl same ↦
      rw (both_same frame (by_heads old) first new same, start_of_new first)
      (above-by_heads first.code_start old new (above-lower first.code_start frame.code_start (old_starts old)
      (omega (arith, same)) up) also)
  | inr (inl lower) ↦
      rw (new_lower frame (by_heads old) first new lower, start_of_new first)
      (above-by_heads first.code_start (frame ∷ old) new (lower, up) also)
  | inr (inr higher) ↦
      rw (old_lower frame (by_heads old) first new higher, start_of_old frame)
      (above-by_heads frame.code_start old (first ∷ new) up (higher, also))
]
