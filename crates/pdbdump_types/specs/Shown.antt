-- Whether all that was looked for is there, and whether that was reported.
use Rattle.std.specs.Prelude.{◌≡◌, ℕ, Bool, true, false, List, Ok}
use Rattle.pdb_base.specs.Answer.{Answer, ◌>>=◌}
use Rattle.pdb_output.specs.Output.{GetsUnlessFailed, OutputState}
use Rattle.pdb_tpi.specs.Table.{Table, table_of}
use Rattle.pdb_types.specs.Definition.{whole_table}
use Rattle.pdbdump_types.specs.declared.progress.Progress.{Progress}

-- one or more messages were written to an output, unless it failed
pub data GetsMessages (old : OutputState) : OutputState → Type 0 where
  one : (new : OutputState) (message : List ℕ) → GetsUnlessFailed old new message → GetsMessages old new
  more : (between new : OutputState) (message : List ℕ) → GetsMessages old between
      → GetsUnlessFailed between new message → GetsMessages old new

-- All that was looked for is there, and nothing was reported; or not all is, and something was reported.
abbrev pub Accounts : OutputState → OutputState → Bool → Type 0
Accounts err err' true = err' ≡ err
Accounts err err' false = GetsMessages err err'

-- The same goes on to be true, wherever it was counted from.
abbrev pub StaysAccounted : Progress → Progress → OutputState → OutputState → Type 0
StaysAccounted old new err err' =
    (start : OutputState) → Accounts start err old.is_whole → Accounts start err' new.is_whole

-- the table of types in a stream, if it can be walked to its end
abbrev pub walked_table : List ℕ → Answer Table
walked_table stream = table_of stream >>= whole_table

-- What a call that shows types answers: the table can be walked to its end, and whether all that was looked for is
-- there.
pub record ShowsTypes (stream : List ℕ) (err err' : OutputState) (all : Bool) : Type 0 where
  pub table : Table
  pub walked : walked_table stream ≡ Ok table
  pub accounts : Accounts err err' all
