-- The headers of all sections of an image, forty bytes each, one after another.
use Rattle.std.specs.Prelude.{◌%◌, ◌==◌, ℕ, List, length, Ok}
use Rattle.pdb_base.specs.Refusal.{unexpected_eof}
use Rattle.pdb_base.specs.Answer.{Answer, ◌>>=◌, ok_if}
use Rattle.pdb_base.specs.Records.{values_of_size}
use Rattle.pdb_space.specs.SectionHeader.{section_header}
use Rattle.pdb_space.specs.declared.section_header.ImageSectionHeader.{ImageSectionHeader}

unfoldable pub section_headers_of : List ℕ → Answer (List ImageSectionHeader)
section_headers_of stream = do
  whole ← ok_if (length stream % 40 == 0) unexpected_eof
  Ok (values_of_size 40 section_header stream)
