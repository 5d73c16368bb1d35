-- Array records, whose dimensions, with any padding behind them, reach to the end of the record.
use Rattle.std.specs.Prelude.{ℕ, Bool, List, [], ◌∷◌, Ok, Err}
use Rattle.pdb_base.specs.Refusal.{unexpected_eof}
use Rattle.pdb_base.specs.Answer.{Answer, ◌>>=◌}
use Rattle.pdb_records.specs.Row.{row}
use Rattle.pdb_records.specs.Dimensions.{dimensions_at}
use Rattle.pdb_records.specs.Padding.{padding_at}
use Rattle.pdb_records.specs.Lists.{ArrayHead, array_row}
use Rattle.pdb_values.specs.Array.{ArrayValue}

-- the array with this head and these dimensions
abbrev pub array_of : ArrayHead → List ℕ → ArrayValue
array_of head dimensions = record {
  element_type = head.element_type;
  indexing_type = head.indexing_type;
  stride =
      head.stride;
  dimensions = dimensions;
}

-- succeeds if no bytes are left, and else fails with `unexpected_eof`
abbrev pub end_of_bytes : List ℕ → Answer (Unit {0} × List ℕ)
end_of_bytes [] = Ok (tt, [])
end_of_bytes (byte ∷ bytes) = Err unexpected_eof

-- reads dimensions and padding, and fails if any bytes are left behind them
unfoldable pub dimensions_to_end : List ℕ → Answer (List ℕ × List ℕ)
dimensions_to_end bytes = do
  ns ← dimensions_at bytes
  pads ← padding_at ns.1
  none ← end_of_bytes pads.1
  Ok (ns.0, none.1)

-- reads an array, and fails if any bytes are left behind it
unfoldable pub array_at : Bool → List ℕ → Answer (ArrayValue × List ℕ)
array_at strided bytes = do
  head ← row (array_row strided) bytes
  ns ← dimensions_to_end head.1
  Ok (array_of head.0 ns.0, ns.1)
