-- The front of bytes is numbers of one byte.
use Rattle.std.proofs.Common.{◌≡◌, ℕ, zero, suc, inl, inr, List, [], ◌∷◌, length, refl, sym, ap, ◌∙◌, arith, Ok}
use Rattle.std.proofs.lemmas.Bool.{cases_lt}
use Rattle.byteorder.specs.Endian.{little_number}
use Rattle.pdb_base.specs.Reading.{front_at, number_at}
use Rattle.pdb_base.specs.Repeated.{read_times}
use Rattle.pdb_base.proofs.lemmas.Collected.{ok}
use Rattle.pdb_base.proofs.lemmas.Reading.{front_whole, front_cut, number_whole, number_cut}

-- a byte is a number by itself
pub byte_read : (byte : ℕ) (bytes : List ℕ) → number_at 1 (byte ∷ bytes) ≡ Ok (byte, bytes)
byte_read byte bytes =
    let is : little_number 1 (byte ∷ []) ≡ byte = omega arith in
    number_whole 1 (byte ∷ bytes) (omega arith) ∙ ap (λ (n : ℕ). ok (n, bytes)) is

pub front_is_bytes : (count : ℕ) (bytes : List ℕ) → front_at count bytes ≡ read_times (number_at 1) count bytes
front_is_bytes zero bytes = front_whole zero bytes (omega arith)
front_is_bytes (suc count) [] = front_cut (suc count) [] (omega arith) ∙ sym (rw (number_cut 1 [] (omega arith)) refl)
front_is_bytes (suc count) (byte ∷ bytes) =
    let more = front_is_bytes count bytes in
    elim (cases_lt (length bytes) count) [
      | inl short ↦
          front_cut (suc count) (byte ∷ bytes) (omega (arith, short))
          ∙ sym (rw (byte_read byte bytes, ← more, front_cut count bytes short) refl)
      | inr long ↦
          front_whole (suc count) (byte ∷ bytes) (omega (arith, long))
          ∙ sym (rw (byte_read byte bytes, ← more, front_whole count bytes long) refl)
    ]
