-- What a call that compares two tables has written and reported, and what it returns.
use Rattle.std.specs.Prelude.{◌≡◌, Bool, true, false, not}
use Rattle.pdb_output.specs.Output.{OutputState}
use Rattle.pdbdump_types.specs.Shown.{GetsMessages, StaysAccounted}
use Rattle.pdb_types.specs.declared.comparison.Comparison.{Comparison}
use Rattle.pdb_types.specs.declared.comparison.Comparison.TheVariants as common
use Rattle.pdbdump_differences.specs.declared.differences.Outcome.{Outcome}
use Rattle.pdbdump_differences.specs.declared.differences.Outcome.TheVariants.{Equal, Different, Incomplete}
use Rattle.pdbdump_types.specs.declared.progress.Progress.{Progress}

-- whether what two definitions have in common leaves a difference that counts, where perhaps only layouts do
abbrev pub counts : Comparison → Bool → Bool
counts common.Equal only = false
counts common.TypesDiffer only = not only
counts common.LayoutDiffers only = true

-- Nothing was written, unless a difference was found.
abbrev pub IsSilent : OutputState → OutputState → Bool → Type 0
IsSilent out out' true = Unit {0}
IsSilent out out' false = out' ≡ out

-- The same goes on to be true, wherever it was counted from.
abbrev pub StaysSilent : Progress → Progress → OutputState → OutputState → Type 0
StaysSilent old new out out' =
    (start : OutputState) → IsSilent start out old.has_shown → IsSilent start out' new.has_shown

-- A part of a comparison: what it wrote and what it reported is accounted for.
pub record Compares (old new : Progress) (out out' err err' : OutputState) : Type 0 where
  pub silent : StaysSilent old new out out'
  pub accounted : StaysAccounted old new err err'

-- what was found, by how far a comparison came
abbrev pub found : Bool → Bool → Outcome
found shown false = Incomplete
found true true = Different
found false true = Equal

-- What a comparison finds: `Equal` only if it wrote and reported nothing, `Different` only if it reported nothing, and
-- `Incomplete` only if it reported something.
pub data IsCompared (out out' err err' : OutputState) : Outcome → Type 0 where
  equal : out' ≡ out → err' ≡ err → IsCompared out out' err err' Equal
  different : err' ≡ err → IsCompared out out' err err' Different
  incomplete : GetsMessages err err' → IsCompared out out' err err' Incomplete
