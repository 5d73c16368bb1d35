-- What a listing of records writes, and why it ended.
use Rattle.std.specs.Prelude.{◌≡◌, ◌≢◌, ℕ, List, [], ◌++◌, length, Result, Ok, Err}
use Rattle.pdb_base.specs.Refusal.{refusal_of}
use Rattle.pdb_base.specs.declared.error.Error.{Error}
use Rattle.pdb_base.specs.declared.error.Error.TheVariants.{OutOfMemory}
use Rattle.pdb_output.specs.Output.{OutputState, Gets, IsFailed, IsPrefix}
use Rattle.pdb_tpi.specs.Steps.{walk, walk_rest}
use Rattle.pdb_tpi.specs.Table.{Table, table_of}
use Rattle.pdb_tpi.specs.Walk.{fault_of}
use Rattle.pdbdump_rows.specs.declared.form.Form.{Form}
use Rattle.pdbdump_rows.specs.Line.{IsRow, WritesWhat, indexed}
use Rattle.pdbdump_rows.specs.Lines.{full_text}
use Rattle.pdbdump_rows.specs.Row.{ShownRow}
use Rattle.pdbdump_rows.specs.Rows.{AreLines, AreRows, AreRowsSoFar, rows_from}

-- what the rows of a table's items begin with: their indexes, in order
abbrev pub item_rows : Table → List ShownRow
item_rows table = rows_from indexed table.header.minimum_index (length (walk table))

-- A listing of a table, with a line for each item that begins with its index, ended in one of these ways:
--   whole    the lines of all items were written, and no byte is left behind the items
--   stopped  the lines of all items were written, and the fault is the one at which the walk stops, before bytes
--            that are left
--   lacking  memory ran out after the lines of some first items were written
--   cut      the output failed, and a prefix of the lines was written
pub data IsWalked (form : Form) (table : Table) (out out' : OutputState) : Result (Unit {0}) Error → Type 0 where
  whole : walk_rest table ≡ [] → WritesWhat (AreRows form (item_rows table)) out out' (Ok tt)
      → IsWalked form table out out' (Ok tt)
  stopped : (fault : Error) → walk_rest table ≢ [] → fault_of (walk_rest table) ≡ refusal_of fault
      → WritesWhat (AreRows form (item_rows table)) out out' (Ok tt) → IsWalked form table out out' (Err fault)
  lacking : (left : List ShownRow) → AreRowsSoFar form (item_rows table) left out out'
      → IsWalked form table out out' (Err OutOfMemory)
  cut : (fault : Error) → IsFailed out' fault → WritesWhat (AreRows form (item_rows table)) out out' (Err fault)
      → IsWalked form table out out' (Err fault)

-- The table that a stream holds was listed, with a line for each item; or the stream is refused as a table, and nothing
-- was written.
pub data IsTableListed (form : Form) (stream : List ℕ) (out out' : OutputState) (result : Result (Unit {0}) Error)
    : Type 0 where
  walked : (table : Table) → table_of stream ≡ Ok table → IsWalked form table out out' result
      → IsTableListed form stream out out' result
  refused : (fault : Error) → result ≡ Err fault → table_of stream ≡ Err (refusal_of fault) → out' ≡ out
      → IsTableListed form stream out out' result

-- A record in full: a row that begins with its index, and then a line for each of its members.
pub record IsInFull (form : Form) (index : ℕ) (text : List ℕ) : Type 0 where
  pub row : List ℕ
  pub members : List ℕ
  pub is : text ≡ row ++ members
  pub begins : IsRow (full_text form) (indexed index) row
  pub lines : AreLines form members

-- One record was written in full; or the call failed, behind a prefix of it.
pub data IsShown (form : Form) (index : ℕ) (old new : OutputState) : Result (Unit {0}) Error → Type 0 where
  whole_shown : (text : List ℕ) → IsInFull form index text → Gets old new text → IsShown form index old new (Ok tt)
  part_shown : (text : List ℕ) (e : Error) → IsInFull form index text → IsPrefix text old.contents new.contents
      → IsShown form index old new (Err e)
