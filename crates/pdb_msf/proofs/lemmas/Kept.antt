-- What follows for a source from what its views keep.
use Rattle.std.specs.Prelude.{IsTrue}
use Rattle.std.proofs.Common.{◌∙◌, refl, arith}
use Rattle.pdb_msf.specs.Source.{State, IsKept, HasFailed}

-- nothing happened yet
pub kept_here : (state : State) → IsKept state state
kept_here state = record { bytes = refl; fixed = refl; counts = omega arith; sound = λ sound. (sound, refl) }

-- one view after another
pub kept_then : (old middle new : State) → IsKept old middle → IsKept middle new → IsKept old new
kept_then old middle new first second = record {
  bytes = second.bytes ∙ first.bytes;
  fixed = second.fixed ∙ first.fixed;
  counts = let a = first.counts in let b = second.counts in omega arith;
  sound = λ sound. let a = first.sound sound in let b = second.sound a.0 in (b.0, b.1 ∙ a.1);
}

-- a source that failed was not sound, nor ever before
pub unsound : (old new : State) → IsKept old new → HasFailed old new → ¬ IsTrue old.is_sound
unsound old new kept failed sound = let same = (kept.sound sound).1 in omega arith

pub unsound_before : (first old new : State) → IsKept first old → IsKept old new → HasFailed old new
    → ¬ IsTrue first.is_sound
unsound_before first old new before kept failed sound = unsound old new kept failed (before.sound sound).0
