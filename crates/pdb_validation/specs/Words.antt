-- Numbers of four bytes each that stand one behind another, and the mismatches of such.
use Rattle.std.specs.Prelude.{ℕ, List, Option}
use Rattle.std.specs.List.{flat_map, range_with_len}
use Rattle.std.specs.Option.{option_to_list}
use Rattle.pdb_validation.specs.declared.mismatch.Mismatch.{Mismatch}

-- the mismatches at the first places, of which each has one or none
unfoldable pub mismatches_at : (ℕ → Option Mismatch) → ℕ → List Mismatch
mismatches_at at_place count = flat_map (λ place. option_to_list (at_place place)) (range_with_len 0 count)
