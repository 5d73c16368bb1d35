-- What rows are written as: a row is a single line, which in JSON is an object.
use Rattle.std.specs.Prelude.{◌≡◌, ◌≢◌, ⊤, ℕ, ◌+◌, ◌<◌, ◌^◌, ◌==◌, ◌||◌, ◌&&◌, not, nat_le, pos, negsuc, Bool, IsTrue}
use Rattle.std.specs.Prelude.{All, List, [], ◌∷◌, ◌++◌, codes}
use Rattle.std.specs.Char.{encode_utf8}
use Rattle.std.specs.List.{flat_map, list_all}
use Rattle.pdbdump_rows.specs.Lines.{line_feed, separate}
use Rattle.pdbdump_rows.specs.Row.{ShownField, hexadecimal, indexes, number, numbers, signed}
use Rattle.pdbdump_rows.specs.Text.{quote, backslash, is_hidden}

-- no byte is below 0x20, as a line feed or the first byte of a terminal's escape sequence is
abbrev pub IsPrintable : List ℕ → Type 0
IsPrintable bytes = IsTrue (list_all (λ byte. nat_le 0x20 byte) bytes)

-- whether a reader of a line sees a character as one
abbrev pub is_shown : ℕ → Bool
is_shown c = not (is_hidden c)

-- A text is the UTF-8 of characters that a reader of a line sees as such.
pub record HasNoneHidden (text : List ℕ) : Type 0 where
  pub characters : List ℕ
  pub shown : IsTrue (list_all is_shown characters)
  pub written : text ≡ flat_map encode_utf8 characters

-- one line: printable bytes, and a line feed behind them
pub record IsLine (text : List ℕ) : Type 0 where
  pub front : List ℕ
  pub printable : IsPrintable front
  pub ends : text ≡ front ++ line_feed ∷ []

-- the letter of a short escape: one of `"\/bfnrt`
abbrev pub is_short : ℕ → Bool
is_short letter = letter == 0x22 || letter == 0x5c || letter == 0x2f || letter == 0x62 || letter == 0x66 || letter ==
    0x6e || letter == 0x72 || letter == 0x74

-- a hexadecimal digit
abbrev pub is_hexadecimal : ℕ → Bool
is_hexadecimal byte = nat_le 0x30 byte && nat_le byte 0x39 || nat_le 0x41 byte && nat_le byte 0x46 || nat_le 0x61 byte
    && nat_le byte 0x66

-- an escape (RFC 8259, section 7): a backslash and a letter, or a backslash, `u` and four hexadecimal digits
pub data IsEscape : List ℕ → Type 0 where
  short : (letter : ℕ) → IsTrue (is_short letter) → IsEscape (backslash ∷ letter ∷ [])
  long : (a b c d : ℕ) → IsTrue (is_hexadecimal a) → IsTrue (is_hexadecimal b) → IsTrue (is_hexadecimal c)
      → IsTrue (is_hexadecimal d) → IsEscape (backslash ∷ 0x75 ∷ a ∷ b ∷ c ∷ d ∷ [])

-- a byte that stands for itself in a string: no control character, no quote and no backslash
abbrev pub is_unescaped : ℕ → Bool
is_unescaped byte = nat_le 0x20 byte && not (byte == quote) && not (byte == backslash)

-- what stands between the quotes of a string
pub data IsInside : List ℕ → Type 0 where
  ended : IsInside []
  unescaped : (byte : ℕ) (rest : List ℕ) → IsTrue (is_unescaped byte) → IsInside rest → IsInside (byte ∷ rest)
  escaped : (front rest : List ℕ) → IsEscape front → IsInside rest → IsInside (front ++ rest)

-- a string of JSON
pub record IsString (text : List ℕ) : Type 0 where
  pub inside : List ℕ
  pub good : IsInside inside
  pub between : text ≡ quote ∷ inside ++ quote ∷ []

-- a decimal digit
abbrev pub is_digit : ℕ → Bool
is_digit byte = nat_le 0x30 byte && nat_le byte 0x39

-- the digits of a number: `0` alone, or digits of which the first is another
pub data AreDigits : List ℕ → Type 0 where
  nought : AreDigits (0x30 ∷ [])
  digits : (first : ℕ) (rest : List ℕ) → IsTrue (is_digit first) → first ≢ 0x30 → IsTrue (list_all is_digit rest)
      → AreDigits (first ∷ rest)

-- what a value of JSON is on a line, if it is no list
pub data IsScalar : List ℕ → Type 0 where
  string : (text : List ℕ) → IsString text → IsScalar text
  natural : (text : List ℕ) → AreDigits text → IsScalar text
  negative : (text : List ℕ) → AreDigits text → IsScalar (0x2d ∷ text)
  true_word : IsScalar (codes "true")
  false_word : IsScalar (codes "false")

-- items with a comma between each two
abbrev pub with_commas : List (List ℕ) → List ℕ
with_commas items = separate (codes ",") (λ item. item) items

-- a value of JSON
pub data IsValue : List ℕ → Type 0 where
  scalar : (text : List ℕ) → IsScalar text → IsValue text
  list : (items : List (List ℕ)) → All IsScalar items → IsValue (codes "[" ++ with_commas items ++ codes "]")

-- a member of an object: its name, a colon and its value
pub record IsMember (text : List ℕ) : Type 0 where
  pub name : List ℕ
  pub value : List ℕ
  pub named : IsString name
  pub valued : IsValue value
  pub is : text ≡ name ++ codes ":" ++ value

-- an object of JSON (RFC 8259, section 4), and a line feed behind it
pub record IsObjectLine (text : List ℕ) : Type 0 where
  pub members : List (List ℕ)
  pub are : All IsMember members
  pub is : text ≡ codes "{" ++ with_commas members ++ codes "}" ++ line_feed ∷ []

-- The numbers that a field shows have 64 bits.
abbrev pub HasSmallNumbers : ShownField → Type 0
HasSmallNumbers (name, number n) = n < 2 ^ 64
HasSmallNumbers (name, signed (pos n)) = n < 2 ^ 64
HasSmallNumbers (name, signed (negsuc n)) = n + 1 < 2 ^ 64
HasSmallNumbers (name, hexadecimal n) = n < 2 ^ 64
HasSmallNumbers (name, numbers ns) = All (λ n. n < 2 ^ 64) ns
HasSmallNumbers (name, indexes ns) = All (λ n. n < 2 ^ 64) ns
HasSmallNumbers field = ⊤
