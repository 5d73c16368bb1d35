-- The lines in which a reply is printed.
use Rattle.std.specs.Prelude.{ℕ, ◌*◌, List, [], ◌∷◌, ◌++◌, length, map, take, drop, codes, Option, Some, None}
use Rattle.std.specs.Int.{div_ceil}
use Rattle.std.specs.Option.{option_map}
use Rattle.std.specs.List.{flat_map, range_with_len}
use Rattle.std.specs.declared.ops.Range.{Range}
use Rattle.hex.specs.Hex.{encode_lower}
use Rattle.pdb_container.specs.ErrorText.{hexadecimal, hexadecimal_of_four}
use Rattle.pdb_container.specs.declared.query.Reply.{Reply}
use Rattle.pdb_container.specs.declared.query.Reply.TheVariants as replies
use Rattle.pdb_base.specs.Text.{lossy}

-- the byte that ends a line
abbrev pub line_end : ℕ
line_end = 10

-- a text and a line feed
abbrev pub line : List ℕ → List ℕ
line text = text ++ line_end ∷ []

-- bytes as lower-case hexadecimal digits
abbrev pub hex_line : List ℕ → List ℕ
hex_line bytes = line (encode_lower bytes)

-- line `k` of the bytes, with 32 bytes a line
abbrev pub line_of : List ℕ → ℕ → List ℕ
line_of all k = take 32 (drop (32 * k) all)

-- all lines of bytes
unfoldable pub hex_lines : List ℕ → List ℕ
hex_lines all = flat_map (λ k. hex_line (line_of all k)) (range_with_len 0 (div_ceil (length all) 32))

-- the text of a name, or `-` if there is none
abbrev pub name_text : Option (List ℕ) → List ℕ
name_text (Some name) = lossy name
name_text None = codes "-"

-- the line of a record: its index, its kind in at least four digits, and its name, with spaces between
-- them
unfoldable pub record_line : ℕ → ℕ → Option (List ℕ) → List ℕ
record_line index kind name = line (hexadecimal index ++ codes " " ++ hexadecimal_of_four kind ++ codes " "
    ++ name_text name)

-- a line for each name
unfoldable pub name_lines : List (Option (List ℕ)) → List ℕ
name_lines names = flat_map (λ name. line (name_text name)) names

-- the line of a range: its start, two dots, and its end
abbrev pub range_line : Range ℕ → List ℕ
range_line range = line (hexadecimal range.start ++ codes ".." ++ hexadecimal range.end)

-- a line for each range
unfoldable pub range_lines : List (Range ℕ) → List ℕ
range_lines ranges = flat_map range_line ranges

-- the lines in which a reply is printed; a refusal has none
abbrev pub reply_lines : Reply → List ℕ
reply_lines (replies.Bytes stream) = hex_lines stream.items
reply_lines (replies.Record index kind name) = record_line index kind (option_map (λ copy. copy.items) name)
reply_lines (replies.Name name) = line (lossy name.items)
reply_lines (replies.Ranges ranges) = range_lines ranges.items
reply_lines (replies.Fields names) = name_lines (map (λ name. option_map (λ copy. copy.items) name) names.items)
reply_lines (replies.Refused e) = []
