-- Rows as lines.
use Rattle.std.specs.Prelude.{ℕ, ◌||◌, if◌then◌else◌, Bool, true, false, List, [], ◌∷◌, ◌++◌, codes, Option, Some, None}
use Rattle.std.specs.Fmt.{decimal, signed_decimal}
use Rattle.std.specs.List.{filter, flat_map}
use Rattle.std.specs.Str.{bytes_eq}
use Rattle.pdb_base.specs.ErrorText.{hexadecimal}
use Rattle.pdbdump_rows.specs.declared.form.Form.{Form}
use Rattle.pdbdump_rows.specs.declared.form.Form.TheVariants.{Text, Json}
use Rattle.pdb_values.specs.LeafNames.{leaf_text}
use Rattle.pdbdump_rows.specs.Row as rows
use Rattle.pdbdump_rows.specs.Row.{ShownValue, ShownField, ShownRow}
use Rattle.pdbdump_rows.specs.Text.{four_digits, shown_text, in_quotes}

-- whether there is no item
abbrev pub is_none : {A : Type 0} → List A → Bool
is_none [] = true
is_none (item ∷ items) = false

-- the texts of items, with a separator between each two
abbrev pub separate : {A : Type 0} → List ℕ → (A → List ℕ) → List A → List ℕ
separate separator text [] = []
separate separator text (item ∷ items) = text item ++ flat_map (λ next. separator ++ text next) items

-- a list: in brackets, with commas between its items
unfoldable pub list_text : {A : Type 0} → (A → List ℕ) → List A → List ℕ
list_text text items = codes "[" ++ separate (codes ",") text items ++ codes "]"

-- an index or an address: in hexadecimal in text, and in decimal in JSON
abbrev pub index_text : Form → ℕ → List ℕ
index_text Text n = hexadecimal n
index_text Json n = decimal n

-- the name of a leaf if it has one, and else its four hexadecimal digits behind `0x`
abbrev pub named_leaf : ℕ → Option (List ℕ) → List ℕ
named_leaf leaf (Some name) = name
named_leaf leaf None = codes "0x" ++ four_digits leaf

-- how a leaf is shown
unfoldable pub shown_leaf_text : ℕ → List ℕ
shown_leaf_text leaf = named_leaf leaf (leaf_text leaf)

-- what a field shows
abbrev pub value_text : Form → ShownValue → List ℕ
value_text form (rows.number n) = decimal n
value_text form (rows.signed z) = signed_decimal z
value_text form (rows.hexadecimal n) = index_text form n
value_text form (rows.kind leaf) = in_quotes form (shown_leaf_text leaf)
value_text form (rows.flag true) = codes "true"
value_text form (rows.flag false) = codes "false"
value_text form (rows.text bytes) = in_quotes form bytes
value_text form (rows.words names) = list_text (in_quotes form) names
value_text form (rows.numbers list) = list_text decimal list
value_text form (rows.indexes list) = list_text (index_text form) list
value_text form rows.absent = []

-- whether a form shows a field: no form shows a field without a value, and text shows no empty list of
-- words
abbrev pub is_shown_value : Form → ShownValue → Bool
is_shown_value form rows.absent = false
is_shown_value Text (rows.words []) = false
is_shown_value form value = true

abbrev pub is_shown : Form → ShownField → Bool
is_shown form field = is_shown_value form field.1

-- whether a line of text shows a field of this name without the name
unfoldable pub is_leading : List ℕ → Bool
is_leading name = bytes_eq name (codes "index") || bytes_eq name (codes "number") || bytes_eq name
    (codes "kind") || bytes_eq name (codes "name")

-- what stands before a field's value on a line
abbrev pub front_text : Form → List ℕ → List ℕ
front_text Text name = if is_leading name then [] else shown_text Text name ++ codes "="
front_text Json name = in_quotes Json name ++ codes ":"

-- a field on a line
unfoldable pub field_text : Form → ShownField → List ℕ
field_text form field = front_text form field.0 ++ value_text form field.1

-- what stands between two fields of a line
abbrev pub separator : Form → List ℕ
separator Text = codes " "
separator Json = codes ","

-- the fields that a line shows
unfoldable pub fields_text : Form → ShownRow → List ℕ
fields_text form row = separate (separator form) (field_text form) (filter (is_shown form) row)

-- the byte that ends a line
abbrev pub line_feed : ℕ
line_feed = 10

-- a row as one line, which is an object in JSON
unfoldable pub row_text : Form → ShownRow → List ℕ
row_text Text row = fields_text Text row ++ line_feed ∷ []
row_text Json row = codes "{" ++ fields_text Json row ++ codes "}" ++ line_feed ∷ []

-- a field as a line of its own
unfoldable pub field_line : ShownField → List ℕ
field_line field = shown_text Text field.0 ++ codes ": " ++ value_text Text field.1 ++ line_feed ∷ []

-- a row in full: in text, one line for each field that is shown; in JSON, its one line
unfoldable pub full_text : Form → ShownRow → List ℕ
full_text Text row = flat_map field_line (filter (is_shown Text) row)
full_text Json row = row_text Json row
