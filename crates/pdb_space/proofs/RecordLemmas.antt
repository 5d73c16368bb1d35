-- The records of a table, as they stand in bytes.
use Rattle.std.proofs.Common.{◌≡◌, ℕ, ◌+◌, ◌-◌, ◌*◌, ◌/◌, ◌<◌, List, length, get_or, take, drop, map, ap, ◌∙◌, arith}
use Rattle.std.proofs.lemmas.List.{get_or-map, drop-drop, drop-take, take_rest}
use Rattle.byteorder.specs.Endian.{little_number}
use Rattle.byteorder.specs.Numbers.{little_from-take}
use Rattle.pdb_base.proofs.lemmas.Records.{spelled_length, spelled_at}
use Rattle.pdb_space.specs.Omap.{OmapValue, mapping_of, mappings_of, source_at, target_at}

nowhere : OmapValue
nowhere = record { source = 0; target = 0 }

-- a number of the record at a place
part_at : (part : OmapValue → ℕ) (bytes : List ℕ) (k : ℕ) → k < length bytes / 8
    → get_or (map part (mappings_of bytes)) k 0 ≡ part (mapping_of (take 8 (drop (8 * k) bytes)))
part_at part bytes k within =
    get_or-map part (mappings_of bytes) k nowhere 0 (omega (arith, within, spelled_length 8 mapping_of bytes))
    ∙ ap part (spelled_at 8 mapping_of bytes k nowhere within)

pub source_there : (bytes : List ℕ) (k : ℕ) → k < length bytes / 8
    → source_at (mappings_of bytes) k ≡ little_number 4 (drop (8 * k) bytes)
unfolding mapping_of
source_there bytes k within = part_at (λ m. m.source) bytes k within
    ∙ little_from-take 0 4 8 (drop (8 * k) bytes) (omega arith)

pub target_there : (bytes : List ℕ) (k : ℕ) → k < length bytes / 8
    → target_at (mappings_of bytes) k ≡ little_number 4 (drop (8 * k + 4) bytes)
unfolding mapping_of
target_there bytes k within =
    part_at (λ m. m.target) bytes k within
    ∙ ap (λ (b : List ℕ). little_number 4 b) (drop-take 4 4 (drop (8 * k) bytes))
    ∙ little_from-take 0 4 4 (drop 4 (drop (8 * k) bytes)) (omega arith)
    ∙ ap (λ (b : List ℕ). little_number 4 b) (drop-drop 4 (8 * k) bytes)

-- the bytes from a place on, as a slice has them
pub from_place : (bytes : List ℕ) (written place : ℕ) → written ≡ place
    → take (length bytes - written) (drop written bytes) ≡ drop place bytes
from_place bytes written place same = take_rest bytes written ∙ ap (λ (n : ℕ). drop n bytes) same
