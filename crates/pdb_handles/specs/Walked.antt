-- The next records of a walk along a table, each with its row.
use Rattle.std.specs.Prelude.{◌≡◌, ◌⊎◌, ◌<◌, if◌then◌else◌, Bool, List, [], ◌∷◌, ◌++◌, length, drop, ℕ, Option, Some}
use Rattle.std.specs.Prelude.{None, Ok, Err}
use Rattle.pdb_base.specs.{Answer.Answer, Answer.◌>>=◌, Refusal.out_of_memory}
use Rattle.pdb_tpi.specs.declared.open_table.RecordPlace.{RecordPlace}
use Rattle.pdb_tpi.specs.{OpenTable.record_bytes, OpenTable.step_located, Record.id_of, Record.type_of}
use Rattle.pdb_tpi.specs.{StepLaws.first_stand, Steps.WalkPosition}
use Rattle.pdb_handles.specs.Fault.{fault_of_refusal, fine, not_open, no_more}
use Rattle.pdb_handles.specs.{declared.content.Content.Content, declared.content.Records.Records}
use Rattle.pdb_handles.specs.{declared.fault.Fault.Fault, declared.row.Row.Row, declared.walked.TypeRow.TypeRow}
use Rattle.pdb_handles.specs.{Copied.Copied, Copied.nothing_copied, Found.Found, Records.id_info, Row.no_numbers}
use Rattle.pdb_handles.specs.{Row.zeroed_row, Row.type_info, Tables.index_told, Tables.located_at}
use Rattle.pdb_handles.specs.declared.content.Content.TheVariants as contents

-- the row of a record of an id, or of that of the type of an index
abbrev pub record_says : Bool → ℕ → List ℕ → Answer Row
record_says are_ids index bytes =
    if are_ids
    then (id_of bytes >>= λ value. Ok (id_info value))
    else (type_of index bytes >>= λ value. Ok (type_info value))

-- a record for the caller: its place and its row; or its place, the fault with which parsing refuses it, and
-- a row of zeros
abbrev pub type_told : ℕ → RecordPlace → Answer Row → TypeRow
type_told index place (Ok row) = record { position = located_at index place; fault = fine; info = row }
type_told index place (Err refusal) =
    record { position = located_at index place; fault = fault_of_refusal refusal; info = zeroed_row 0 no_numbers }

-- A record is written as it is meant; or memory to parse it was refused.
abbrev pub IsTypeRow : ℕ → RecordPlace → Answer Row → TypeRow → Type 0
IsTypeRow index place meant told =
    (told ≡ type_told index place meant) ⊎ (told ≡ type_told index place (Err out_of_memory))

-- what is written of the record at a place, if a walk stands before it
abbrev pub IsToldAt : Bool → WalkPosition → RecordPlace → TypeRow → Type 0
IsToldAt are_ids stand place told = IsTypeRow (index_told stand.index) place
    (record_says are_ids (index_told stand.index) (record_bytes stand.table place)) told

-- These are the next records of a walk: each step returns the place of one, and its row is that of the bytes of
-- the stream there. Behind the last one, the walk stands at `end`.
abbrev pub AreNext : Bool → WalkPosition → List TypeRow → WalkPosition → Type 0
AreNext are_ids stand [] end = end ≡ stand
AreNext are_ids stand (told ∷ more) end =
    (place : RecordPlace) × (next : WalkPosition) × (step_located stand ≡ Ok (Some place, next))
    × IsToldAt are_ids stand place told × AreNext are_ids next more end

-- No record is left, or the fault is that of the next one.
abbrev pub StopsWith : Answer (Option RecordPlace × WalkPosition) → Fault → Type 0
StopsWith (Ok (Some place, next)) fault = ⊥
StopsWith (Ok (None, next)) fault = fault ≡ no_more
StopsWith (Err refusal) fault = fault ≡ fault_of_refusal refusal

-- Why no more records are written: the array has no room for more, or the walk stops there.
abbrev pub EndsWith : ℕ → ℕ → WalkPosition → Fault → Type 0
EndsWith count room end fault =
    ((count ≡ room) × (fault ≡ fine)) ⊎ ((count < room) × StopsWith (step_located end) fault)

-- The next records of a walk are written at the front of an array, as many as it has room for or as are left
-- before the walk stops, and the items behind them stay as they were. The walk is past the last one.
pub record WritesNext (old : List TypeRow) (before : Records) (told : Copied TypeRow) (now : Records) : Type 0 where
  pub rows : List TypeRow
  pub are : AreNext before.are_ids before.types rows now.types
  pub ids : now.are_ids ≡ before.are_ids
  pub count : told.length ≡ length rows
  pub room : told.room ≡ rows ++ drop (length rows) old
  pub ends : EndsWith (length rows) (length old) now.types told.fault

-- The same for the table that a handle holds; nothing is written if it holds none.
abbrev pub WritesNextOf : List TypeRow → Option Content → Copied TypeRow → Option Content → Type 0
WritesNextOf old (Some (contents.Table before)) told held =
    (now : Records) × (held ≡ Some (contents.Table now)) × WritesNext old before told now
WritesNextOf old before told held = (told ≡ nothing_copied not_open old) × (held ≡ before)

-- how a call ended that sets the walk back to the first item, and what the handle holds afterwards
abbrev pub rewound : Option Content → Found (Option Content)
rewound (Some (contents.Table records)) = record {
  fault = fine;
  value = Some (contents.Table (record records { types = first_stand records.types.table }));
}
rewound held = record { fault = not_open; value = held }
