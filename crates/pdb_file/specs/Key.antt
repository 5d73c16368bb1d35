-- The key under which symbol servers store a file.
use Rattle.std.specs.Prelude.{ℕ, true, false, List, ◌++◌}
use Rattle.std.specs.Fmt.{digits}
use Rattle.uuid.specs.Text.{lower, simple_text, upper}

-- in upper case: the 32 digits of the GUID, and the hexadecimal digits of the age
abbrev pub upper_key : List ℕ → ℕ → List ℕ
upper_key guid age = simple_text upper guid ++ digits 16 true age

-- the same in lower case
abbrev pub lower_key : List ℕ → ℕ → List ℕ
lower_key guid age = simple_text lower guid ++ digits 16 false age
