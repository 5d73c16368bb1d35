-- Section headers one behind the other.
use Rattle.std.proofs.Common.{◌≡◌, ℕ, ◌-◌, ◌<◌, ◌≤◌, ◌%◌, eq-eqb, List, [], ◌∷◌, ◌++◌, length, take, drop}
use Rattle.std.proofs.Common.{refl, sym, ap, subst, ◌∙◌, arith, Ok, Err}
use Rattle.std.proofs.lemmas.List.{append_assoc, append-nil, length-drop}
use Rattle.pdb_base.specs.Records.{values_of_size}
use Rattle.pdb_base.proofs.lemmas.Collected.{ok_is, ok_is_no_err}
use Rattle.pdb_base.proofs.lemmas.Reading.{front_whole}
use Rattle.pdb_base.proofs.lemmas.Records.{spelled_first, spelled_none}
use Rattle.pdb_base.specs.Refusal.{Refusal}
use Rattle.pdb_space.specs.SectionHeader.{section_header, section_header_at}
use Rattle.pdb_space.specs.declared.section_header.ImageSectionHeader.{ImageSectionHeader}
use Rattle.pdb_file.specs.SectionHeaders.{section_headers_of}

header_there : (bytes : List ℕ) → 40 ≤ length bytes
    → section_header_at bytes ≡ Ok (section_header (take 40 bytes), drop 40 bytes)
unfolding section_header_at
header_there bytes long = rw (front_whole 40 bytes long) refl

-- a header that is there is not refused
pub header_refused : (bytes : List ℕ) (e : Refusal) → 40 ≤ length bytes → section_header_at bytes ≡ Err e → ⊥
header_refused bytes e long refused = ok_is_no_err (section_header (take 40 bytes), drop 40 bytes) e
    (sym (header_there bytes long) ∙ refused)

-- one header more of those that are left
pub header_step : (before : List ImageSectionHeader) (bytes : List ℕ) (header : ImageSectionHeader) (rest : List ℕ)
    → 40 ≤ length bytes → section_header_at bytes ≡ Ok (header, rest)
    → (before ++ values_of_size 40 section_header bytes
    ≡ (before ++ header ∷ []) ++ values_of_size 40 section_header rest)
    × (length rest ≡ length bytes - 40)
header_step before bytes header rest long read =
    subst (λ (p : ImageSectionHeader × List ℕ). (before ++ values_of_size 40 section_header bytes
    ≡ (before ++ p.0 ∷ []) ++ values_of_size 40 section_header p.1) × (length p.1 ≡ length bytes - 40))
    (ok_is _ _ (sym (header_there bytes long) ∙ read)) (
      ap (λ (more : List ImageSectionHeader). before ++ more) (spelled_first 40 section_header bytes (omega arith) long)
          ∙ sym (append_assoc before _ _),
      length-drop 40 bytes,
    )

-- all headers, where none is left
pub all_headers : (stream : List ℕ) (headers : List ImageSectionHeader) (rest : List ℕ) → length stream % 40 ≡ 0
    → values_of_size 40 section_header stream ≡ headers ++ values_of_size 40 section_header rest → length rest < 40
    → section_headers_of stream ≡ Ok headers
unfolding section_headers_of
all_headers stream headers rest whole all none =
    rw (eq-eqb (length stream % 40) 0 whole, all, spelled_none 40 section_header rest none, append-nil headers) refl
