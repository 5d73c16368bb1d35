-- The numbers by which the definitions of names are found: those of a name are in a row, and each tells the index
-- of a definition.
use Rattle.std.specs.Prelude.{◌≡◌, ℕ, ◌+◌, ◌-◌, ◌/◌, ◌%◌, ◌≤◌, ◌==◌, Bool, true, ◌||◌, if◌then◌else◌, List, [], ◌∷◌}
use Rattle.std.specs.Prelude.{◌++◌}
use Rattle.std.specs.Prelude.{length, min, Ok, Err}
use Rattle.std.specs.List.{All, list_any}
use Rattle.std.specs.List.Sorted.{IsNonDecreasingBy}
use Rattle.std.specs.Option.{option_map_or}
use Rattle.pdb_base.specs.Answer.{Answer}
use Rattle.pdb_values.specs.TypeValue.{TypeValue}
use Rattle.pdb_tpi.specs.Record.{type_of}
use Rattle.pdb_tpi.specs.Steps.{walk}
use Rattle.pdb_tpi.specs.Table.{Table}
use Rattle.pdb_types.specs.declared.numbering.Numbering.{Numbering}
use Rattle.pdb_types.specs.Declaration.{Declared, TypeName, source_name, decorated_name, declaration_of, is_forward}
use Rattle.pdb_types.specs.Definition.{defines}
use Rattle.pdb_types.specs.NameHash.{name_hash}
use Rattle.pdb_types.specs.TypeAt.{type_at}

-- how far the index of an item of a table can be above the least one: an item has four bytes at least
abbrev pub most_above : Table → ℕ
most_above table = min (length table.bytes / 4) (0xffff_ffff - table.header.minimum_index)

-- how the names of a table are numbered
abbrev pub numbering_of : Table → Bool → Numbering
numbering_of table has_source_names = record {
  least = table.header.minimum_index;
  most = most_above table;
  has_source_names = has_source_names;
}

-- whether a name is numbered: each unique name is
abbrev pub is_numbered : Numbering → TypeName → Bool
is_numbered numbering (source_name text) = numbering.has_source_names
is_numbered numbering (decorated_name text) = true

-- the first number of a name: the highest multiple that is not above half the hash
unfoldable pub first_number : Numbering → TypeName → ℕ
first_number numbering name = let half = name_hash name / 2 in half - half % (numbering.most + 1)

-- the number of a name of the definition of an index
abbrev pub name_number : Numbering → TypeName → ℕ → ℕ
name_number numbering name index = first_number numbering name + (index - numbering.least)

-- whether the records of a kind are lists of arguments, of fields or of methods
abbrev pub is_list : ℕ → Bool
is_list kind = kind == 0x1203 || kind == 0x1201 || kind == 0x1206

-- the number of the name that the source gives a definition, if such names are numbered
abbrev pub source_name_number : Numbering → ℕ → Declared → List ℕ
source_name_number numbering index declared =
    if numbering.has_source_names then name_number numbering (source_name declared.name) index ∷ [] else []

-- the number of the unique name of a definition, if it has one
abbrev pub unique_name_number : Numbering → ℕ → Declared → List ℕ
unique_name_number numbering index declared =
    option_map_or (λ name. name_number numbering (decorated_name name) index ∷ []) declared.unique_name []

-- the numbers of a type: those of its names, if it is a definition
abbrev pub type_numbers : Numbering → ℕ → Answer TypeValue → List ℕ
type_numbers numbering index (Ok value) = option_map_or (λ declared. if is_forward declared then []
    else source_name_number numbering index declared ++ unique_name_number numbering index declared)
    (declaration_of value) []
type_numbers numbering index (Err refusal) = []

-- the numbers of items, of which the first has that index
abbrev pub item_numbers : Numbering → ℕ → List (List ℕ) → List ℕ
item_numbers numbering index [] = []
item_numbers numbering index (item ∷ items) =
    type_numbers numbering index (type_of index item) ++ item_numbers numbering (index + 1) items

-- the numbers of all items of a table, in the order of the items
unfoldable pub all_numbers : Numbering → Table → List ℕ
all_numbers numbering table = item_numbers numbering table.header.minimum_index (walk table)

-- Numbers are those of a table: they are sorted, and each definition of a name that is numbered has its number.
pub record HasNumbers (table : Table) (numbering : Numbering) (numbers : List ℕ) : Type 0 where
  pub numbered : numbering ≡ numbering_of table numbering.has_source_names
  pub fits : numbering.least + numbering.most ≤ 0xffff_ffff
  pub sorted : IsNonDecreasingBy (λ number. number) numbers
  pub complete : (name : TypeName) (index : ℕ) → is_numbered numbering name ≡ true
      → table.header.minimum_index ≤ index → defines name (type_at table index) ≡ true
      → list_any (λ number. number == name_number numbering name index) numbers ≡ true

-- the index that a number tells, where the first number of the name is given
abbrev pub index_of_number : Table → ℕ → ℕ → ℕ
index_of_number table first number = table.header.minimum_index + (number - first)

-- Numbers are those of a table that may be of a name with this first number: they don't fall, and each definition
-- of the name has one that tells its index.
pub record AreCandidates (table : Table) (numbering : Numbering) (first : ℕ) (numbers : List ℕ) : Type 0 where
  pub rising : IsNonDecreasingBy (λ number. number) numbers
  pub least : All (λ number. first ≤ number) numbers
  pub most : All (λ number. number ≤ first + most_above table) numbers
  pub complete : (name : TypeName) (index : ℕ) → is_numbered numbering name ≡ true
      → first_number numbering name ≡ first → table.header.minimum_index ≤ index
      → defines name (type_at table index) ≡ true
      → list_any (λ number. index_of_number table first number == index) numbers ≡ true
