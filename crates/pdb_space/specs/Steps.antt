-- One step after another, of which each may give None.
use Rattle.std.specs.Prelude.{Option, option_and_then}

infixl 10 ◌>>=◌
-- the second step, made from the result of the first; if the first gives None, the result is None
abbrev pub ◌>>=◌ : {A B : Type 0} → Option A → (A → Option B) → Option B
found >>= next = option_and_then next found
