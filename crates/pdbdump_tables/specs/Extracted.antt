-- A part of the bytes of a stream.
use Rattle.std.specs.Prelude.{ℕ, List, take, drop, Option, Some, None}

-- the bytes after the first `skip`, and of these at most as many as the limit says
abbrev pub part_of : ℕ → Option ℕ → List ℕ → List ℕ
part_of skip None bytes = drop skip bytes
part_of skip (Some limit) bytes = take limit (drop skip bytes)
