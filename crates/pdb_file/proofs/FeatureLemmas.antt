-- The features that bytes tell, one number after another.
use Rattle.std.proofs.Common.{◌≡◌, ◌≢◌, ℕ, ◌+◌, ◌*◌, ◌/◌, ◌<◌, ◌≤◌, List, ◌∷◌, length, drop, refl, ap, ◌∙◌, arith}
use Rattle.std.proofs.lemmas.Bool.{eq-eqb, ne_eqb}
use Rattle.std.proofs.lemmas.List.{drop-drop, length-drop}
use Rattle.pdb_base.specs.Endian.{little_number}
use Rattle.pdb_base.proofs.lemmas.Records.{record_within, spelled_first, spelled_none}
use Rattle.pdb_base.specs.Reading.{word_at}
use Rattle.pdb_file.specs.Features.{features_in, numbers_in, told_by, vc110_number, with_number}
use Rattle.pdb_file.specs.declared.features.Features.{Features}

-- the number at a place, and those behind it
numbers_from : (bytes : List ℕ) (place : ℕ) → place < length bytes / 4
    → numbers_in (drop (4 * place) bytes) ≡ word_at (4 * place) bytes ∷ numbers_in (drop (4 * (place + 1)) bytes)
numbers_from bytes place within =
    let next : 4 * place + 4 ≡ 4 * (place + 1) = omega arith in
    spelled_first 4 (little_number 4) (drop (4 * place) bytes) (omega arith) (record_within 4 place bytes within)
    ∙ ap (λ (rest : List ℕ). word_at (4 * place) bytes ∷ numbers_in rest)
    (drop-drop 4 (4 * place) bytes ∙ ap (λ (n : ℕ). drop n bytes) next)

-- These features, and those that the numbers from a place on tell, are all.
abbrev pub ToldFrom : List ℕ → ℕ → Features → Type 0
ToldFrom bytes place told = features_in bytes ≡ told_by (numbers_in (drop (4 * place) bytes)) told

pub told_from_next : (bytes : List ℕ) (place : ℕ) (told : Features) → ToldFrom bytes place told
    → place < length bytes / 4 → word_at (4 * place) bytes ≢ vc110_number
    → ToldFrom bytes (place + 1) (with_number (word_at (4 * place) bytes) told)
told_from_next bytes place told from within other =
    from ∙ rw (numbers_from bytes place within, ne_eqb (word_at (4 * place) bytes) vc110_number other) refl

pub told_at_last : (bytes : List ℕ) (place : ℕ) (told : Features) → ToldFrom bytes place told
    → place < length bytes / 4 → word_at (4 * place) bytes ≡ vc110_number
    → features_in bytes ≡ with_number (word_at (4 * place) bytes) told
told_at_last bytes place told from within is =
    from ∙ rw (numbers_from bytes place within, eq-eqb (word_at (4 * place) bytes) vc110_number is) refl

pub told_at_end : (bytes : List ℕ) (place : ℕ) (told : Features) → ToldFrom bytes place told
    → length bytes / 4 ≤ place → features_in bytes ≡ told
told_at_end bytes place told from past =
    let few : length (drop (4 * place) bytes) < 4 = omega (arith, length-drop (4 * place) bytes) in
    from ∙ ap (λ (numbers : List ℕ). told_by numbers told) (spelled_none 4 (little_number 4) _ few)
