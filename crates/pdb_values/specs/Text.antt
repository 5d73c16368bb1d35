-- A text is the list of its bytes, wherever they are stored.
use Rattle.std.specs.Prelude.{ℕ, List}
use Rattle.pdb_base.specs.declared.raw_string.RawString.{RawString}

-- the bytes of a text
abbrev pub text_bytes : RawString → List ℕ
text_bytes text = text.0.now
