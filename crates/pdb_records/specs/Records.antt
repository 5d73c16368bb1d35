-- How the contents of a type record are read behind its leaf.
use Rattle.std.specs.Prelude.{ℕ, List, Ok}
use Rattle.pdb_base.specs.Answer.{Answer, ◌>>=◌}
use Rattle.pdb_records.specs.Row.{Row, row}
use Rattle.pdb_records.specs.Shape.{as_type}
use Rattle.pdb_records.specs.ToEnd.{to_end}
use Rattle.pdb_records.specs.declared.leaf.Leaf.{Leaf}
use Rattle.pdb_records.specs.declared.leaf.Leaf.TheVariants.{Plain, ArgumentList, MethodList, Array}
use Rattle.pdb_records.specs.declared.parse.counted.CountWidth.TheVariants.{Bits32}
use Rattle.pdb_values.specs.TypeValue.{PlainValue, TypeValue}
use Rattle.pdb_values.specs.TypeValue as values
use Rattle.pdb_records.specs.Rows.{listed_method_row}
use Rattle.pdb_records.specs.Counted.{counted_at}
use Rattle.pdb_records.specs.Arrays.{array_at}
use Rattle.pdb_records.specs.Known.{known_at}
use Rattle.pdb_records.specs.Leaves.{leaf_of, row_of}

-- reads a row, and returns the type that it makes
abbrev pub plain_at : Row PlainValue → List ℕ → Answer (TypeValue × List ℕ)
plain_at r bytes = row r bytes >>= λ value. Ok (values.plain value.0, value.1)

-- reads the contents of a record whose leaf has this number
abbrev pub data_at : ℕ → Leaf → List ℕ → Answer (TypeValue × List ℕ)
data_at number (Plain leaf) bytes = plain_at (row_of number leaf) bytes
data_at number ArgumentList bytes = counted_at Bits32 as_type bytes >>= λ list. Ok (values.argument_list list.0, list.1)
data_at number MethodList bytes = to_end (row listed_method_row) bytes
    >>= λ list. Ok (values.method_list list.0, list.1)
data_at number (Array strided) bytes = array_at strided bytes >>= λ array. Ok (values.array array.0, array.1)

-- reads a list of arguments, for the bytes that are left behind it
abbrev pub arguments_end : List ℕ → Answer (List ℕ)
arguments_end bytes = counted_at Bits32 as_type bytes >>= λ list. Ok list.1

-- reads the record behind a leaf; a leaf that has none is refused with its number
unfoldable pub behind_leaf : ℕ → List ℕ → Answer (TypeValue × List ℕ)
behind_leaf number bytes = known_at number (data_at number) (leaf_of number) bytes
