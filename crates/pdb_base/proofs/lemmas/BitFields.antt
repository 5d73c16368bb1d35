-- What the bits of a number come to.
use Rattle.std.proofs.Common.{◌≡◌, ℕ, ◌+◌, ◌*◌, ◌/◌, ◌%◌, ◌^◌, sym, ap, ◌∙◌, arith, bit_and}
use Rattle.std.proofs.Math.Nat.{div-div-eq-div-mul, mod-eq_of_lt}
use Rattle.std.proofs.lemmas.Nat.{pow-add, mod-pow-add, bit_set_by_shift, and_mask}
use Rattle.pdb_base.specs.Bits.{bits}
use Rattle.pdb_base.specs.BitLaws.{ArePutTogether, IsAllItsBits, TellsOneBit}

pub put_together : (word place low high : ℕ) → ArePutTogether word place low high
unfolding bits
put_together word place low high =
    let above : word / 2 ^ place / 2 ^ low ≡ word / 2 ^ (place + low) = div-div-eq-div-mul word (2 ^ place) (2 ^ low)
    ∙ ap (λ (n : ℕ). word / n) (sym (pow-add 2 place low)) in
    let order : low + high ≡ high + low = omega arith in
    ap (λ (n : ℕ). word / 2 ^ place % 2 ^ n) order
    ∙ mod-pow-add (word / 2 ^ place) high low
    ∙ ap (λ (n : ℕ). (n % 2 ^ high) * 2 ^ low + word / 2 ^ place % 2 ^ low) above

pub all_bits : (word count : ℕ) → IsAllItsBits word count
unfolding bits
all_bits word count fits = ap (λ (n : ℕ). n % 2 ^ count) (omega arith) ∙ mod-eq_of_lt fits

pub one_bit : (word place : ℕ) → TellsOneBit word place
unfolding bits
one_bit word place =
    let same : bit_and (word / 2 ^ place) 1 ≡ word / 2 ^ place % 2 ^ 1 = and_mask (word / 2 ^ place) 1 in
    rw (← same) (bit_set_by_shift word place)
