-- The definition of `Bits`, stated in other words.
use Rattle.std.specs.Prelude.{◌≡◌, ◌↔◌, ℕ, ◌+◌, ◌*◌, ◌<◌, ◌^◌, IsBitSet}
use Rattle.pdb_base.specs.Bits.{bits}

-- The number in several bits is put together from the lower ones and the higher ones.
abbrev pub ArePutTogether : ℕ → ℕ → ℕ → ℕ → Type 0
ArePutTogether word place low high = bits word place (low + high)
    ≡ bits word (place + low) high * 2 ^ low + bits word place low

-- A number that fits in `count` bits is the number in them.
abbrev pub IsAllItsBits : ℕ → ℕ → Type 0
IsAllItsBits word count = word < 2 ^ count → bits word 0 count ≡ word

-- One bit is 1 if and only if it is set.
abbrev pub TellsOneBit : ℕ → ℕ → Type 0
TellsOneBit word place = (bits word place 1 ≡ 1) ↔ IsBitSet word place
