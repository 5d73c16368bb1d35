-- How rows and their names are written into a caller's arrays.
use Rattle.std.specs.Prelude.{◌≡◌, ◌⊎◌, ℕ, ◌+◌, ◌||◌, nat_lt, if◌then◌else◌, List, [], ◌∷◌, ◌++◌, length, drop, Option}
use Rattle.std.specs.Prelude.{Some, None, Ok, Err}
use Rattle.std.specs.List.{flat_map}
use Rattle.pdb_base.specs.{Refusal.out_of_memory, Answer.Answer}
use Rattle.pdb_handles.specs.Fault.{fine, fault_of_refusal, no_value, not_open, too_small}
use Rattle.pdb_handles.specs.{declared.copied.Listing.Listing, declared.fault.Fault.Fault}

-- the names of some things one behind another, each with a NUL behind it
abbrev pub ended_names : {X : Type 0} → (X → List ℕ) → List X → List ℕ
ended_names name things = flat_map (λ thing. name thing ++ 0 ∷ []) things

-- a row for each thing, with the place of its name among the names, of which the first is here
unfoldable pub placed_rows : {X R : Type 0} → (ℕ → X → R) → (X → List ℕ) → ℕ → List X → List R
placed_rows row name here [] = []
placed_rows row name here (thing ∷ things) =
    row here thing ∷ placed_rows row name (here + (length (name thing) + 1)) things

-- rows for the caller, and their names
pub record NamedRows (R : Type 0) : Type 0 where
  pub rows : List R
  pub names : List ℕ

-- the listing that the code made, independent of where it is stored
abbrev pub listing_view : {R : Type 0} → Listing R → NamedRows R
listing_view made = record { rows = made.rows.items; names = made.names.items }

-- the result of a call that writes rows and their names: how it ended, how many there are of both, and
-- the caller's arrays afterwards
pub record Listed (R : Type 0) : Type 0 where
  pub fault : Fault
  pub rows : List R
  pub count : ℕ
  pub names : List ℕ
  pub size : ℕ

-- nothing is written
abbrev pub no_rows_copied : {R : Type 0} → Fault → List R → List ℕ → Listed R
no_rows_copied fault rows names = record { fault = fault; rows = rows; count = 0; names = names; size = 0 }

-- The rows and the names are written at the fronts of the arrays. If there is no room for all of either, nothing is
-- written, and the counts still say how many there are.
abbrev pub rows_copied : {R : Type 0} → List R → List ℕ → List R → List ℕ → Listed R
rows_copied rows names told bytes =
    if nat_lt (length rows) (length told) || nat_lt (length names) (length bytes)
    then record { fault = too_small; rows = rows; count = length told; names = names; size = length bytes }
    else record {
      fault = fine;
      rows = told ++ drop (length told) rows;
      count = length told;
      names = bytes ++ drop (length bytes) names;
      size = length bytes;
    }

-- the listing that is meant is written, or the fault is that of its refusal
abbrev pub listing_told : {R : Type 0} → List R → List ℕ → Answer (Option (NamedRows R)) → Listed R
listing_told rows names (Ok (Some told)) = rows_copied rows names told.rows told.names
listing_told rows names (Ok None) = no_rows_copied no_value rows names
listing_told rows names (Err refusal) = no_rows_copied (fault_of_refusal refusal) rows names

-- the same for what a handle holds, if it holds what the call is about, and else `not_open`
abbrev pub listing_asked : {A R : Type 0} → List R → List ℕ → (A → Answer (Option (NamedRows R))) → Option A → Listed R
listing_asked rows names answer (Some held) = listing_told rows names (answer held)
listing_asked rows names answer None = no_rows_copied not_open rows names

-- What is meant was written; or memory ran out, and nothing was written.
abbrev pub RowsOrLacks : {R : Type 0} → Listed R → List R → List ℕ → Listed R → Type 0
RowsOrLacks done rows names meant =
    (done ≡ meant) ⊎ (done ≡ no_rows_copied (fault_of_refusal out_of_memory) rows names)
