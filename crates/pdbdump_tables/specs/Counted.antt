-- How many records a table has, and how many its header counts.
use Rattle.std.specs.Prelude.{◌≡◌, ℕ, ◌-◌, List, length, IfSome, Option, Some, Ok}
use Rattle.pdb_tpi.specs.Steps.{walk}
use Rattle.pdb_tpi.specs.Table.{Table, table_of}
use Rattle.pdbdump_tables.specs.declared.completeness.RecordCounts.{RecordCounts}

-- These are the counts of a table: that of its header, from the minimum to below the maximum, and that of its items.
pub record AreCounted (table : Table) (given : Option RecordCounts) : Type 0 where
  pub counts : RecordCounts
  pub is : given ≡ Some counts
  pub counted : counts.counted ≡ table.header.maximum_index - table.header.minimum_index
  pub present : counts.present ≡ length (walk table)

-- These are the counts of the table that a stream holds.
pub record AreCountedIn (stream : List ℕ) (given : Option RecordCounts) : Type 0 where
  pub table : Table
  pub is : table_of stream ≡ Ok table
  pub counted : AreCounted table given

-- Counts that are known are the same.
abbrev pub CountsAgree : Option RecordCounts → Type 0
CountsAgree given = IfSome given (λ counts. counts.counted ≡ counts.present)

-- A stream holds a table that has as many items as its header counts.
pub record HasItsCount (stream : List ℕ) : Type 0 where
  pub table : Table
  pub is : table_of stream ≡ Ok table
  pub agrees : table.header.maximum_index - table.header.minimum_index ≡ length (walk table)
