-- A number is read back from its spelling.
use Rattle.std.proofs.Common.{◌≡◌, ℕ, ◌+◌, ◌^◌, ◌<◌, List, ◌++◌, length, take, drop, refl, sym, ap, ◌∙◌, arith, Ok}
use Rattle.std.proofs.lemmas.List.{length-append}
use Rattle.std.proofs.Math.Seq.{drop-append_seam}
use Rattle.byteorder.specs.Endian.{little_bytes, little_number}
use Rattle.byteorder.specs.Numbers.{length-bytes_low_first, little_from-take, little_number-reads_back}
use Rattle.pdb_base.specs.Reading.{number_at}
use Rattle.pdb_base.specs.Laws.{ReadsSpelling}
use Rattle.pdb_base.proofs.lemmas.Reading.{number_whole, number_cut}

spelled : (width number : ℕ) (rest : List ℕ) → number < 256 ^ width
    → number_at width (little_bytes width number ++ rest) ≡ Ok (number, rest)
spelled width number rest small =
    let size : length (little_bytes width number) ≡ width = length-bytes_low_first 0 width number in
    let all : length (little_bytes width number ++ rest) ≡ length (little_bytes width number) + length rest =
    length-append (little_bytes width number) rest in
    let is : little_number width (take width (little_bytes width number ++ rest)) ≡ number =
    little_from-take 0 width width (little_bytes width number ++ rest) (omega arith)
    ∙ little_number-reads_back width number rest small in
    let behind : drop width (little_bytes width number ++ rest) ≡ rest =
    ap (λ (n : ℕ). drop n (little_bytes width number ++ rest)) (sym size)
    ∙ drop-append_seam (little_bytes width number) rest in
    number_whole width (little_bytes width number ++ rest) (omega (arith, size, all)) ∙ rw (is, behind) refl

pub reads_spelling : (width : ℕ) (bytes : List ℕ) → ReadsSpelling width bytes
reads_spelling width bytes = (
  λ number rest small is. ap (λ (r : List ℕ). number_at width r) is ∙ spelled width number rest small,
  number_cut width bytes,
)
