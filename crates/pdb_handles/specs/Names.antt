-- Where names stand in the stream of a string table.
use Rattle.std.specs.Prelude.{◌≡◌, ℕ, ◌+◌, List, length, take, drop, Ok, Err}
use Rattle.pdb_base.specs.Answer.{Answer, ◌>>=◌}
use Rattle.pdb_space.specs.StringTable.{name_of, names_of}
use Rattle.pdb_handles.specs.declared.names.NamePlace.{NamePlace}

-- the place of the name at an offset: it stands that far behind the header's 12 bytes
abbrev pub name_place : List ℕ → ℕ → Answer NamePlace
name_place names offset = name_of names offset >>= λ name. Ok (record { offset = 12 + offset; length = length name })

-- the place that is meant, or zeros, at which no name is, if there is none
abbrev pub place_or_zeros : Answer NamePlace → NamePlace
place_or_zeros (Ok place) = place
place_or_zeros (Err refusal) = record { offset = 0; length = 0 }

-- The bytes of a stream at the place of a name are the name.
abbrev pub StandsAtItsPlace : List ℕ → ℕ → Type 0
StandsAtItsPlace stream offset = (names : List ℕ) (place : NamePlace) → names_of stream ≡ Ok names
    → name_place names offset ≡ Ok place → name_of names offset ≡ Ok (take place.length (drop place.offset stream))
