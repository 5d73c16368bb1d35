-- Where a name stands in the buckets of a string table, by its hash (`LHashPbCb` in Microsoft's misc.h for version 1 of
-- the table, and for version 2 what LLVM calls `hashStringV2`).
use Rattle.std.specs.Prelude.{ℕ, ◌+◌, ◌*◌, ◌/◌, ◌%◌, ◌^◌, ◌==◌, ◌&&◌, nat_le, if◌then◌else◌, List, ◌∷◌, length, drop}
use Rattle.std.specs.Prelude.{bit_or, bit_xor}
use Rattle.std.specs.List.{fold, range_with_len}
use Rattle.pdb_base.specs.Reading.{number_in, word_at}

-- a hash of 32 bits with one more number
abbrev pub stirred : ℕ → ℕ
stirred sum = let mixed = (sum + sum * 2 ^ 10 % 2 ^ 32) % 2 ^ 32 in bit_xor mixed (mixed / 2 ^ 6)

abbrev pub stir : ℕ → ℕ → ℕ → ℕ
stir version hash number = if version == 1 then bit_xor hash number else stirred ((hash + number) % 2 ^ 32)

-- the hash before a name, and with the words of four bytes that the name has
abbrev pub hash_before : ℕ → ℕ
hash_before version = if version == 1 then 0 else 0xb170a1bf

unfoldable pub hash_of_words : ℕ → List ℕ → ℕ → ℕ
hash_of_words version name count =
    fold (λ hash place. stir version hash (word_at (4 * place) name)) (hash_before version) (range_with_len 0 count)

-- what is left of a name behind its words, as numbers: bytes, of which version 1 takes two together
abbrev pub numbers_left : ℕ → List ℕ → List ℕ
numbers_left version bytes =
    if version == 1 && nat_le 2 (length bytes) then number_in 2 0 bytes ∷ drop 2 bytes else bytes

-- the last step of a hash
abbrev pub folded : ℕ → ℕ
folded hash = let half = bit_xor hash (hash / 2 ^ 11) in bit_xor half (half / 2 ^ 16)

abbrev pub finished : ℕ → ℕ → ℕ
finished version hash =
    if version == 1
    then folded (bit_or hash 0x20202020)
    else (hash * 1664525 % 2 ^ 32 + 1013904223) % 2 ^ 32

-- the hash of a name
unfoldable pub hash_of_name : ℕ → List ℕ → ℕ
hash_of_name version name =
    finished version
    (fold (stir version) (hash_of_words version name (length name / 4))
    (numbers_left version (drop (4 * (length name / 4)) name)))
