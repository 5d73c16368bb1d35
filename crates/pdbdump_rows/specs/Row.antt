-- A row as a value, independent of where its bytes are stored: a name, a word or another text is the list
-- of its bytes.
use Rattle.std.specs.Prelude.{ℕ, ℤ, Bool, List, map}
use Rattle.std.specs.Borrow.{Bor}
use Rattle.std.specs.List.{filter}
use Rattle.pdbdump_rows.specs.declared.value.Value.{Value}
use Rattle.pdbdump_rows.specs.declared.value.Value.TheVariants as values

-- the value that a field shows
pub data ShownValue : Type 0 where
  number : ℕ → ShownValue
  signed : ℤ → ShownValue
  hexadecimal : ℕ → ShownValue
  kind : ℕ → ShownValue
  flag : Bool → ShownValue
  text : List ℕ → ShownValue
  words : List (List ℕ) → ShownValue
  numbers : List ℕ → ShownValue
  indexes : List ℕ → ShownValue
  absent : ShownValue

-- a field: its name and the value that it shows
abbrev pub ShownField : Type 0
ShownField = List ℕ × ShownValue

-- the fields of a row, in order
abbrev pub ShownRow : Type 0
ShownRow = List ShownField

-- the words of the flags that are set, in order
unfoldable pub words_beside_true : List (Bool × List ℕ) → List (List ℕ)
words_beside_true flags = map (λ flag. flag.1) (filter (λ flag. flag.0) flags)

-- the shown value of a `Value`
abbrev pub value_shown : Value → ShownValue
value_shown (values.Number n) = number n
value_shown (values.Signed z) = signed z
value_shown (values.Hexadecimal n) = hexadecimal n
value_shown (values.Kind leaf) = kind leaf
value_shown (values.Flag holds) = flag holds
value_shown (values.Text name) = text name.0.now
value_shown (values.Word name) = text name.now
value_shown (values.Words flags) = words (words_beside_true (map (λ flag. (flag.0, flag.1.now)) flags.now))
value_shown (values.Numbers list) = numbers list.now
value_shown (values.Indexes list) = indexes list.now
value_shown values.Absent = absent

-- the shown field of a `Field`
abbrev pub field_shown : Bor (List ℕ) × Value → ShownField
field_shown field = (field.0.now, value_shown field.1)
