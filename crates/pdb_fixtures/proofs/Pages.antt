-- What a page can hold of bytes.
use Rattle.std.specs.Prelude.{◌≡◌, ℕ, List, length, min, take}
use Rattle.std.proofs.lemmas.List.{take_min}

-- the bytes up to the page's end, or to their own
pub front : (bytes : List ℕ) → take (min 512 (length bytes)) bytes ≡ take 512 bytes
front bytes = take_min 512 bytes
