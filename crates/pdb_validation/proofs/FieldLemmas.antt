-- Fields of headers.
use Rattle.std.proofs.Common.{◌≡◌, ℕ, ◌+◌, ◌*◌, ◌≤◌, List, length, take, drop, refl, arith, Ok}
use Rattle.std.proofs.lemmas.Bool.{le-ltb}
use Rattle.std.specs.Prelude.{count_ones}
use Rattle.std.proofs.lemmas.List.FromFn.{sum_by-map-range_with_len_more}
use Rattle.pdb_base.specs.Reading.{word_at}
use Rattle.pdb_msf.specs.Source.{file_part}
use Rattle.pdb_validation.specs.Information.{ones_from}

-- the bits of one word more
pub ones_more : (stream : List ℕ) (byte n : ℕ)
    → ones_from stream byte (n + 1) ≡ ones_from stream byte n + count_ones (word_at (byte + 4 * n) stream)
unfolding ones_from
ones_more stream byte n =
    sum_by-map-range_with_len_more count_ones (λ place. word_at (byte + 4 * place) stream) 0 n n (omega arith)

-- the bytes of a number are there
pub word_there : (file : List ℕ) (byte : ℕ) → byte + 4 ≤ length file
    → file_part file byte 4 ≡ Ok (take 4 (drop byte file))
unfolding file_part
word_there file byte long = let reach = le-ltb (length file) (byte + 4) long in rw reach refl
