-- What a command that lists reports of what its listing lacks.
use Rattle.std.specs.Prelude.{◌≡◌, ℕ, IsTrue, Bool, List, Result, Ok, Err}
use Rattle.pdb_base.specs.declared.error.Error.{Error}
use Rattle.pdb_output.specs.Output.{OutputState}
use Rattle.pdbdump_tables.specs.Counted.{HasItsCount}
use Rattle.pdbdump_types.specs.Shown.{Accounts}
use Rattle.pdbdump_cli.specs.declared.command.Command.{Command}
use Rattle.pdbdump_cli.specs.declared.command.Command.TheVariants as commands

-- A list of records is complete, and nothing was reported; or it isn't, and something was reported. The answer to a
-- summary is yes only if nothing was reported. Of other listings nothing is reported.
abbrev pub TellsLacks : Command → OutputState → OutputState → Bool → Type 0
TellsLacks (commands.Types stream index) err err' all = Accounts err err' all
TellsLacks (commands.Ids stream index) err err' all = Accounts err err' all
TellsLacks commands.Summary err err' all = IsTrue all → err' ≡ err
TellsLacks other err err' all = err' ≡ err

-- That was reported; or a fault ended the listing, and nothing was reported here.
abbrev pub EndsTold : Command → OutputState → OutputState → Result Bool Error → Type 0
EndsTold command err err' (Ok all) = TellsLacks command err err' all
EndsTold command err err' (Err fault) = err' ≡ err

-- What was looked for in a table was found, all that is listed could be read, the table has as many records as its
-- header counts, and nothing was reported; or something was.
pub record IsSearchTold (stream : List ℕ) (err err' : OutputState) (all : Bool) : Type 0 where
  pub accounts : Accounts err err' all
  pub counted : IsTrue all → HasItsCount stream
