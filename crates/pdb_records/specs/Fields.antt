-- Field lists, and whole type records.
use Rattle.std.specs.Prelude.{ℕ, Bool, true, false, ◌==◌, List, [], ◌∷◌, Option, Some, None, Ok}
use Rattle.std.specs.Option.{option_or}
use Rattle.pdb_base.specs.declared.index.TypeIndex.{TypeIndex}
use Rattle.pdb_base.specs.Answer.{Answer, ◌>>=◌}
use Rattle.pdb_base.specs.Reading.{number_at}
use Rattle.pdb_records.specs.Row.{row}
use Rattle.pdb_records.specs.ToEnd.{to_end}
use Rattle.pdb_records.specs.Padding.{padding_at}
use Rattle.pdb_values.specs.TypeValue.{TypeValue, Fields}
use Rattle.pdb_values.specs.TypeValue as values
use Rattle.pdb_records.specs.Rows.{continuation_row}
use Rattle.pdb_records.specs.Records.{behind_leaf}

-- LF_INDEX: its entry has the index of the list that continues this one
abbrev pub continuation_leaf : ℕ
continuation_leaf = 0x1404

-- LF_FIELDLIST
abbrev pub field_list_leaf : ℕ
field_list_leaf = 0x1203

-- an entry of a field list: a field, or the index of the list that continues it
pub data Entry : Type 0 where
  field : TypeValue → Entry
  continues : TypeIndex → Entry

-- the fields among some entries
abbrev pub fields_among : List Entry → Fields
fields_among [] = values.no_field
fields_among (field value ∷ entries) = values.first_field value (fields_among entries)
fields_among (continues index ∷ entries) = fields_among entries

-- the index in the last entry that names a continuation, if there is one
abbrev pub continuation_of : List Entry → Option TypeIndex
continuation_of [] = None
continuation_of (field value ∷ entries) = continuation_of entries
continuation_of (continues index ∷ entries) = option_or (continuation_of entries) (Some index)

-- the field list that some entries make up
abbrev pub field_list_of : List Entry → TypeValue
field_list_of entries = values.field_list (fields_among entries) (continuation_of entries)

-- reads what follows the leaf of an entry
abbrev pub entry_of : Bool → ℕ → List ℕ → Answer (Entry × List ℕ)
entry_of true number bytes = row continuation_row bytes >>= λ index. Ok (continues index.0, index.1)
entry_of false number bytes = behind_leaf number bytes >>= λ value. Ok (field value.0, value.1)

-- reads an entry and the padding behind it
unfoldable pub field_at : List ℕ → Answer (Entry × List ℕ)
field_at bytes = do
  number ← number_at 2 bytes
  entry ← entry_of (number.0 == continuation_leaf) number.0 number.1
  nothing ← padding_at entry.1
  Ok (entry.0, nothing.1)

-- reads the entries of a field list, which go on to the end of the bytes
abbrev pub field_list_at : List ℕ → Answer (TypeValue × List ℕ)
field_list_at bytes = to_end field_at bytes >>= λ entries. Ok (field_list_of entries.0, entries.1)

-- the index of the list in which a list of fields continues, if there is one; no other record has one
abbrev pub continuation_in : TypeValue → Option TypeIndex
continuation_in (values.field_list fields continuation) = continuation
continuation_in value = None

-- reads a list of fields for the index of the list in which it continues
abbrev pub list_continuation_at : List ℕ → Answer (Option TypeIndex × List ℕ)
list_continuation_at bytes = field_list_at bytes >>= λ list. Ok (continuation_in list.0, list.1)

-- reads what follows the leaf of a record
abbrev pub record_of : Bool → ℕ → List ℕ → Answer (TypeValue × List ℕ)
record_of true number bytes = field_list_at bytes
record_of false number bytes = behind_leaf number bytes

-- reads a type record
unfoldable pub record_at : List ℕ → Answer (TypeValue × List ℕ)
record_at bytes = do
  number ← number_at 2 bytes
  record_of (number.0 == field_list_leaf) number.0 number.1

-- the value of a type record, whatever is left behind it
unfoldable pub type_record : List ℕ → Answer TypeValue
type_record bytes = record_at bytes >>= λ x. Ok x.0
