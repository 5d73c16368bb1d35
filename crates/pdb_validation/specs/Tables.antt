-- The records of the tables of types and of ids: which of them have an error.
use Rattle.std.specs.Prelude.{ℕ, ◌+◌, ◌-◌, ◌==◌, nat_lt, if◌then◌else◌, List, [], ◌∷◌, ◌++◌, length}
use Rattle.std.specs.Prelude.{Option, Some, None, Ok, Err}
use Rattle.std.specs.Option.{option_to_list}
use Rattle.pdb_base.specs.Answer.{Answer, ◌>>=◌, ok_if}
use Rattle.pdb_base.specs.Refusal.{Refusal, unexpected_eof, unimplemented_type_kind}
use Rattle.pdb_records.specs.Fields.{field_list_leaf}
use Rattle.pdb_validation.specs.Records.{is_not_read}
use Rattle.pdb_tpi.specs.Chain.{not_below}
use Rattle.pdb_tpi.specs.Finder.{item_of}
use Rattle.pdb_tpi.specs.OpenTable.{item_position}
use Rattle.pdb_tpi.specs.Record.{id_of, kind_of, type_of}
use Rattle.pdb_tpi.specs.Steps.{walk, walk_rest}
use Rattle.pdb_tpi.specs.Table.{Table, table_of}
use Rattle.pdb_tpi.specs.Walk.{fault_of}
use Rattle.pdb_values.specs.TypeValue.{TypeValue, field_list}
use Rattle.pdb_validation.specs.Finding.{FaultPlace, record_fault, stream_fault}
use Rattle.pdb_validation.specs.Places.{PagesValue, file_byte}
use Rattle.pdb_validation.specs.Problem.{failure}
use Rattle.pdb_validation.specs.declared.finding.Part.{Part}

-- ---- one record

-- the error, if there is one
abbrev pub refusal_in : {A : Type 0} → Answer A → Option Refusal
refusal_in (Ok x) = None
refusal_in (Err refusal) = Some refusal

-- A field list is continued by the list of an index, which must be below its own.
unfoldable pub continues_at : Table → ℕ → ℕ → Answer (Unit {0})
continues_at table index next = do
  below ← ok_if (nat_lt next index) not_below
  item ← item_of table next
  ok_if (kind_of item == field_list_leaf) (unimplemented_type_kind (kind_of item))

-- the same for a type that may be a field list with a continuation
abbrev pub continued_in : Table → ℕ → TypeValue → Answer (Unit {0})
continued_in table index (field_list fields (Some next)) = continues_at table index next.0
continued_in table index other = Ok tt

-- The record of a type is one, and the list that continues it is below it, if there is one.
unfoldable pub read_in : Table → ℕ → List ℕ → Answer (Unit {0})
read_in table index item = type_of index item >>= continued_in table index

-- the answer with this error
abbrev pub fail_with : Refusal → Answer (Unit {0})
fail_with refusal = Err refusal

-- an answer for a record, or success if the kind of the record is not read by this library
abbrev pub unless_unread : {A : Type 0} → ℕ → Answer A → Answer (Unit {0})
unless_unread kind (Ok x) = Ok tt
unless_unread kind (Err refusal) = if is_not_read kind refusal then Ok tt else Err refusal

-- The record of a type is one, and the list that continues it is below it, if there is one; or its kind is not read.
unfoldable pub checked_type : Table → ℕ → List ℕ → Answer (Unit {0})
checked_type table index item = unless_unread (kind_of item) (read_in table index item)

-- The record of an id is one, or its kind is not read.
unfoldable pub checked_id : ℕ → List ℕ → Answer (Unit {0})
checked_id index item = unless_unread (kind_of item) (id_of item)

-- ---- all records

-- the fault of an error
abbrev pub refusal_fault : {A : Type 0} → (Refusal → FaultPlace) → Answer A → Option FaultPlace
refusal_fault fault (Ok x) = None
refusal_fault fault (Err refusal) = Some (fault refusal)

-- The faults of the items that have an error, and then the fault behind the items. The first item has that index.
abbrev pub item_faults : {A : Type 0} → (ℕ → Refusal → FaultPlace) → (ℕ → List ℕ → Answer A) → ℕ → List (List ℕ)
    → Option FaultPlace → List FaultPlace
item_faults fault means index [] behind = option_to_list behind
item_faults fault means index (item ∷ items) behind =
    option_to_list (refusal_fault (fault index) (means index item)) ++ item_faults fault means (index + 1) items behind

-- the byte of its stream at which the item of an index begins, behind the header and the items before it
abbrev pub byte_of : Table → ℕ → ℕ
byte_of table index = item_position table (index - table.header.minimum_index)

-- the fault of the record of an index, which begins at that byte of a stream that has those pages
abbrev pub fault_at : Part → ℕ → PagesValue → ℕ → ℕ → Refusal → FaultPlace
fault_at part stream pages index byte refusal =
    record_fault part stream index byte (file_byte pages byte) (failure refusal)

-- the same for the record of an index of a table
abbrev pub item_fault : Part → ℕ → PagesValue → Table → ℕ → Refusal → FaultPlace
item_fault part stream pages table index refusal = fault_at part stream pages index (byte_of table index) refusal

-- the fault that a table has no item of an index that its header counts
abbrev pub missing_fault : (ℕ → Refusal → FaultPlace) → ℕ → ℕ → Option FaultPlace
missing_fault fault index maximum = if nat_lt index maximum then Some (fault index unexpected_eof) else None

-- the fault behind the items of a table: bytes that begin no item, or an item that is missing
abbrev pub fault_behind : (ℕ → Refusal → FaultPlace) → ℕ → ℕ → List ℕ → Option FaultPlace
fault_behind fault index maximum [] = missing_fault fault index maximum
fault_behind fault index maximum (byte ∷ rest) = Some (fault index (fault_of (byte ∷ rest)))

-- the faults of the records of a table
unfoldable pub record_faults : {A : Type 0} → (ℕ → Refusal → FaultPlace) → (ℕ → List ℕ → Answer A) → Table
    → List FaultPlace
record_faults fault means table =
    item_faults fault means table.header.minimum_index (walk table)
    (fault_behind fault (table.header.minimum_index + length (walk table)) table.header.maximum_index (walk_rest table))

-- ---- the tables

-- the faults of a table: that of its header, or those of its records
abbrev pub table_faults : Part → ℕ → (Table → List FaultPlace) → Answer Table → List FaultPlace
table_faults part number within (Ok table) = within table
table_faults part number within (Err refusal) = stream_fault part number (failure refusal) ∷ []

-- the faults of the table in a stream that has those pages, whose records are to be so
unfoldable pub faults_in_table : Part → ℕ → (Table → ℕ → List ℕ → Answer (Unit {0})) → PagesValue → List ℕ
    → List FaultPlace
faults_in_table part number checked pages stream =
    table_faults part number (λ table. record_faults (item_fault part number pages table) (checked table) table)
    (table_of stream)
