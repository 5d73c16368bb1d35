-- What is read from the front of bytes, together with the bytes that follow it.
use Rattle.std.specs.Prelude.{ℤ, ◌==◌, [], ◌∷◌, ℕ, List, length, take, drop, Ok, Err, nat_lt, if◌then◌else◌}
use Rattle.std.specs.Int.{Width, cast_signed}
use Rattle.byteorder.specs.Endian.{little_number}
use Rattle.pdb_base.specs.Refusal.{unexpected_eof}
use Rattle.pdb_base.specs.Answer.{Answer, ◌>>=◌}
use Rattle.pdb_base.specs.declared.parse.Le.{Le}

-- little-endian, the order in which the lowest byte of a number comes first
abbrev pub lowest_first : Le
lowest_first = record {}

-- what is read, converted to another value
abbrev pub read_as : {A B : Type 0} → (A → B) → Answer (A × List ℕ) → Answer (B × List ℕ)
read_as meant read = read >>= λ value. Ok (meant value.0, value.1)

-- the first `count` bytes
unfoldable pub front_at : ℕ → List ℕ → Answer (List ℕ × List ℕ)
front_at count bytes = if nat_lt (length bytes) count then Err unexpected_eof else Ok
    (take count bytes, drop count bytes)

-- the little-endian number in the first `width` bytes
unfoldable pub number_at : ℕ → List ℕ → Answer (ℕ × List ℕ)
number_at width bytes = do
  front ← front_at width bytes
  Ok (little_number width front.0, front.1)

-- the little-endian signed number in the first `bytes_wide` bytes, in two's complement
unfoldable pub signed_at : Width → ℕ → List ℕ → Answer (ℤ × List ℕ)
signed_at width bytes_wide bytes = do
  number ← number_at bytes_wide bytes
  Ok (cast_signed width number.0, number.1)

-- the little-endian number in `width` bytes at an offset
abbrev pub number_in : ℕ → ℕ → List ℕ → ℕ
number_in width offset bytes = little_number width (take width (drop offset bytes))

-- the little-endian u32 at an offset
abbrev pub word_at : ℕ → List ℕ → ℕ
word_at offset bytes = little_number 4 (take 4 (drop offset bytes))

-- the number at the front of bytes, without the bytes that follow it
unfoldable pub peek_number : ℕ → List ℕ → Answer ℕ
peek_number width bytes = do
  number ← number_at width bytes
  Ok number.0

-- the text up to the first NUL, and the bytes after the NUL
abbrev pub text_at : List ℕ → Answer (List ℕ × List ℕ)
text_at [] = Err unexpected_eof
text_at (byte ∷ bytes) = if byte == 0 then Ok ([], bytes) else text_at bytes >>= λ text. Ok (byte ∷ text.0, text.1)

-- the text that follows a byte with its length
unfoldable pub pascal_text_at : List ℕ → Answer (List ℕ × List ℕ)
pascal_text_at bytes = do
  len ← number_at 1 bytes
  front_at len.0 len.1
