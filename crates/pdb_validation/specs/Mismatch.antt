-- What is inconsistent, and how much of it is looked for.
use Rattle.std.specs.Prelude.{Bool, ◌&&◌, not, if◌then◌else◌, List, [], ◌∷◌, ◌++◌, filter, take}
use Rattle.std.specs.List.{fold}
use Rattle.pdb_validation.specs.Inconsistency.{is_warning}
use Rattle.pdb_validation.specs.declared.mismatch.Extent.{Extent}
use Rattle.pdb_validation.specs.declared.mismatch.Extent.TheVariants.{First, All}
use Rattle.pdb_validation.specs.declared.mismatch.Mismatch.{Mismatch}

abbrev pub warns : Mismatch → Bool
warns mismatch = is_warning mismatch.what

-- Those of all mismatches that are looked for: all, or the first error, and where there is none the first warning.
abbrev pub asked_of : Extent → List Mismatch → List Mismatch
asked_of All all = all
asked_of First all = take 1 (filter (λ mismatch. not (warns mismatch)) all ++ filter warns all)

-- ---- one after another

-- the mismatches that are kept of some and of one behind them
abbrev pub with_one : Extent → List Mismatch → Mismatch → List Mismatch
with_one All kept further = kept ++ further ∷ []
with_one First [] further = further ∷ []
with_one First (mismatch ∷ kept) further =
    if warns mismatch && not (warns further) then further ∷ [] else mismatch ∷ kept

-- the mismatches that are kept of some and of others behind them
abbrev pub with_further : Extent → List Mismatch → List Mismatch → List Mismatch
with_further extent kept further = fold (with_one extent) kept further
