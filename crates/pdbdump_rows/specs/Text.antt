-- Text as rows show it.
use Rattle.std.specs.Prelude.{ℕ, ◌+◌, ◌-◌, ◌/◌, ◌%◌, ◌==◌, ◌||◌, ◌&&◌, nat_lt, nat_le, if◌then◌else◌, Bool, false, not}
use Rattle.std.specs.Prelude.{List, [], ◌∷◌, ◌++◌, Option, Some, None}
use Rattle.std.specs.Fmt.{digit_glyph}
use Rattle.std.specs.List.{flat_map}
use Rattle.std.specs.Map.{lookup}
use Rattle.std.specs.Char.{encode_utf8}
use Rattle.bstr.specs.Utf8.{lossy_chars}
use Rattle.ucd_derived.specs.Binary.{is_default_ignorable_code_point}
use Rattle.pdbdump_rows.specs.declared.form.Form.{Form}
use Rattle.pdbdump_rows.specs.declared.form.Form.TheVariants.{Text, Json}

-- the character `"`
abbrev pub quote : ℕ
quote = 0x22

-- the character `\`
abbrev pub backslash : ℕ
backslash = 0x5c

-- the four lower-case hexadecimal digits of the low 16 bits of a number, the highest first
abbrev pub four_digits : ℕ → List ℕ
four_digits n = digit_glyph false (n / 4096 % 16) ∷ digit_glyph false (n / 256 % 16) ∷ digit_glyph false (n / 16 % 16)
    ∷ digit_glyph false (n % 16) ∷ []

-- each character that has a short escape, and what follows the backslash of that (RFC 8259, section
-- 7)
abbrev pub short_escapes : List (ℕ × ℕ)
short_escapes =
    (quote, quote)
    ∷ (backslash, backslash)
    ∷ (0x08, 0x62)  -- backspace, `b`
    ∷ (0x09, 0x74)  -- tab, `t`
    ∷ (0x0a, 0x6e)  -- line feed, `n`
    ∷ (0x0c, 0x66)  -- form feed, `f`
    ∷ (0x0d, 0x72)  -- carriage return, `r`
    ∷ []

-- the letter of a character's short escape, if it has one
abbrev pub short_escape : ℕ → Option ℕ
short_escape c = lookup (λ known. known == c) short_escapes

-- the escape of a unit of UTF-16
abbrev pub unit_escape : ℕ → List ℕ
unit_escape unit = backslash ∷ 0x75 ∷ four_digits unit

-- the escapes of the units of UTF-16 of a character, which are two from U+10000 on
unfoldable pub long_escape : ℕ → List ℕ
long_escape c = if nat_lt c 0x10000 then unit_escape c
    else unit_escape (0xd800 + (c - 0x10000) / 1024) ++ unit_escape (0xdc00 + (c - 0x10000) % 1024)

-- an escape, by its letter if it has one
abbrev pub escape_by : ℕ → Option ℕ → List ℕ
escape_by c (Some letter) = backslash ∷ letter ∷ []
escape_by c None = long_escape c

-- how a character is escaped (RFC 8259, section 7)
unfoldable pub escape : ℕ → List ℕ
escape c = escape_by c (short_escape c)

-- Whether a reader of a line doesn't see a character as one: the control characters (U+0000 to U+001F and U+007F to
-- U+009F), the separators of lines and of paragraphs (U+2028, U+2029), and those that are ignored where a text is
-- shown, such as marks of its direction and spaces of no width (Default_Ignorable_Code_Point of Unicode).
unfoldable pub is_hidden : ℕ → Bool
is_hidden c = nat_lt c 0x20 || nat_le 0x7f c && nat_lt c 0xa0 || c == 0x2028 || c == 0x2029
    || is_default_ignorable_code_point c

-- whether a form escapes a character: each hidden one, and JSON also the quote and the backslash
abbrev pub is_escaped : Form → ℕ → Bool
is_escaped Text c = is_hidden c
is_escaped Json c = is_hidden c || c == quote || c == backslash

-- whether a byte is a character that no form escapes
abbrev pub is_plain : ℕ → Bool
is_plain byte = nat_le 0x20 byte && nat_le byte 0x7e && not (byte == quote) && not (byte == backslash)

-- a character as a form shows it
unfoldable pub shown_char : Form → ℕ → List ℕ
shown_char form c = if is_escaped form c then escape c else encode_utf8 c

-- a text as a form shows it: its characters, with U+FFFD for each run of bytes that is no character
unfoldable pub shown_text : Form → List ℕ → List ℕ
shown_text form bytes = flat_map (shown_char form) (lossy_chars bytes)

-- the same, in quotes in JSON
unfoldable pub in_quotes : Form → List ℕ → List ℕ
in_quotes Text bytes = shown_text Text bytes
in_quotes Json bytes = quote ∷ shown_text Json bytes ++ quote ∷ []
