-- Parts of a word: what a shift and a mask take of it.
use Rattle.std.proofs.Common.{◌≡◌, ℕ, ◌-◌, ◌/◌, ◌^◌, ◌<◌, ◌≤◌, arith, sym}
use Rattle.std.specs.Int.RustNames.{bit_and}
use Rattle.std.proofs.Math.Nat.{div-eq_of_lt, div-le_self, mod-eq_of_lt, pow-le-pow_right}
use Rattle.std.proofs.lemmas.Nat.{and_mask, mod_below, pow_pos}
use Rattle.pdb_base.specs.Bits.{bits}

-- a shift, and a mask of ones
pub shifted_and_masked : (word place count : ℕ) → bit_and (word / 2 ^ place) (2 ^ count - 1) ≡ bits word place count
unfolding bits
shifted_and_masked word place count = and_mask (word / 2 ^ place) count

-- so many bits say a number below that power of 2
pub bits_below : (word place count : ℕ) → bits word place count < 2 ^ count
unfolding bits
bits_below word place count = mod_below (word / 2 ^ place) (2 ^ count) (pow_pos count)

-- a word of 32 bits is below any power of 2 from there on
within : (word count : ℕ) → word < 2 ^ 32 → 32 ≤ count → word < 2 ^ count
within word count small long = let more : 2 ^ 32 ≤ 2 ^ count = pow-le-pow_right {n = 2} (omega arith) long in
    omega (arith, small, more)

-- of a word of 32 bits nothing is left behind them
pub shifted_out : (word place : ℕ) → word < 2 ^ 32 → 32 ≤ place → word / 2 ^ place ≡ 0
shifted_out word place small far = div-eq_of_lt (within word place small far)

-- and 32 bits or more of it are all that is left
pub bits_of_all : (word place count : ℕ) → word < 2 ^ 32 → 32 ≤ count → word / 2 ^ place ≡ bits word place count
unfolding bits
bits_of_all word place count small long =
    let below : word / 2 ^ place < 2 ^ count =
    omega (arith, within word count small long, div-le_self word (2 ^ place)) in
    sym (mod-eq_of_lt below)
