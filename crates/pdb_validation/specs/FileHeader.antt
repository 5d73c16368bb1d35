-- What the header of a file says of its pages (`BIGMSF_HDR` in Microsoft's msf.cpp).
use Rattle.std.specs.Prelude.{ℕ, ◌==◌, ◌&&◌, not, nat_lt, List, [], ◌∷◌, length, None}
use Rattle.std.specs.Int.{div_ceil}
use Rattle.pdb_base.specs.Reading.{word_at}
use Rattle.pdb_validation.specs.HeaderFields.{fields_mismatches}
use Rattle.pdb_validation.specs.declared.header_fields.FieldCheck.{FieldCheck}
use Rattle.pdb_validation.specs.declared.inconsistency.Inconsistency.TheVariants.{FreePageMap, PageCount}
use Rattle.pdb_validation.specs.declared.mismatch.Mismatch.{Mismatch}

-- The fields of a header, with the size of the file and of its pages: the number of the free page map, and how many
-- pages are in use.
abbrev pub page_fields : ℕ → ℕ → ℕ → ℕ → List FieldCheck
page_fields size page_size map pages =
    record { is_wrong = not (map == 1) && not (map == 2); byte = None; what = FreePageMap map }
    ∷ record { is_wrong = nat_lt (div_ceil size page_size) pages; byte = None; what = PageCount pages } ∷ []

-- The mismatches of the header of a file with pages of a size: the free page map is that of page 1 or of page 2, and
-- no more pages are in use than the file has.
abbrev pub file_header_mismatches : ℕ → List ℕ → List Mismatch
file_header_mismatches page_size file =
    fields_mismatches None (page_fields (length file) page_size (word_at 36 file) (word_at 40 file))
