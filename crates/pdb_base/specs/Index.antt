-- What indexes mean and how they are printed.
use Rattle.std.specs.Prelude.{ℕ, ◌==◌, List, ◌++◌, Option, Some, None, codes, if◌then◌else◌}
use Rattle.std.specs.Fmt.{decimal}
use Rattle.pdb_base.specs.ErrorText.{hexadecimal}

-- the number 0xffff, which stands for no stream
abbrev pub no_stream : ℕ
no_stream = 65535

-- the number of the stream that a stream index names, if it names one
abbrev pub stream_number : ℕ → Option ℕ
stream_number n = if n == no_stream then None else Some n

-- how a stream index is printed: the number in decimal, or `None`
abbrev pub stream_text : ℕ → List ℕ
stream_text n = if n == no_stream then codes "None" else decimal n

-- how an index is printed for debugging: the name of its type and its number, for example `TypeIndex(0x1000)`
abbrev pub debug_text : List ℕ → ℕ → List ℕ
debug_text name n = name ++ codes "(" ++ hexadecimal n ++ codes ")"
