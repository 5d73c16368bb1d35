-- Bytes that are too few for a header's fields.
use Rattle.std.proofs.Common.{◌≡◌, inl, inr, ℕ, ◌+◌, ◌<◌, List, [], ◌∷◌, length, refl, arith, Ok, Err}
use Rattle.std.proofs.lemmas.Bool.{cases_lt}
use Rattle.std.proofs.lemmas.List.{length-drop}
use Rattle.std.specs.Int.{w32, cast_signed}
use Rattle.pdb_base.specs.Refusal.{unexpected_eof}
use Rattle.pdb_base.specs.Answer.{Answer, ◌>>=◌}
use Rattle.pdb_base.specs.Reading.{number_at, signed_at}
use Rattle.pdb_base.proofs.lemmas.Reading.{number_whole, number_cut}
use Rattle.pdb_tpi.specs.Header.{slice_of, header_fields, read_header_of, header_of}

-- a read that takes so many bytes, or is refused where there are fewer
data Takes {A : Type 0} (count : ℕ) (bytes : List ℕ) (read : Answer (A × List ℕ)) : Type 0 where
  cut : length bytes < count → read ≡ Err unexpected_eof → Takes count bytes read
  whole : (x : A) (rest : List ℕ) → read ≡ Ok (x, rest) → length rest + count ≡ length bytes → Takes count bytes read

-- one read after another
takes_then : {A B : Type 0} (count more : ℕ) (bytes : List ℕ) (first : Answer (A × List ℕ))
    (second : A × List ℕ → Answer (B × List ℕ))
    → Takes count bytes first → ((x : A) (rest : List ℕ) → Takes more rest (second (x, rest)))
    → Takes (count + more) bytes (first >>= second)
takes_then count more bytes first second (cut short is) more_of = cut (omega arith) (rw is refl)
takes_then count more bytes first second (whole x rest is left) more_of = elim (more_of x rest) [
  | cut short refused ↦ cut (omega arith) (rw is refused)
  | whole y behind given far ↦ whole y behind (rw is given) (omega arith)
]

takes_nothing : {A : Type 0} (x : A) (bytes : List ℕ) → Takes 0 bytes (Ok (x, bytes))
takes_nothing x bytes = whole x bytes refl (omega arith)

takes_number : (width : ℕ) (bytes : List ℕ) → Takes width bytes (number_at width bytes)
takes_number width bytes = elim (cases_lt (length bytes) width) [
  | inl short ↦ cut short (number_cut width bytes short)
  | inr long ↦ whole _ _ (number_whole width bytes long) (omega (arith, length-drop width bytes))
]

takes_signed : (bytes : List ℕ) → Takes 4 bytes (signed_at w32 4 bytes)
unfolding signed_at
takes_signed bytes = takes_then 4 0 bytes (number_at 4 bytes) _ (takes_number 4 bytes)
    (λ number rest. takes_nothing (cast_signed w32 number) rest)

takes_slice : (bytes : List ℕ) → Takes 8 bytes (slice_of bytes)
unfolding slice_of
takes_slice bytes =
    takes_then 4 4 bytes (signed_at w32 4 bytes) _ (takes_signed bytes) (λ offset behind_offset.
    takes_then 4 0 behind_offset (number_at 4 behind_offset) _ (takes_number 4 behind_offset)
    (λ size rest. takes_nothing _ rest))

takes_fields : (bytes : List ℕ) → Takes 56 bytes (header_fields bytes)
unfolding header_fields
takes_fields bytes =
    takes_then 4 52 bytes (number_at 4 bytes) _ (takes_number 4 bytes) (λ version from_4.
    takes_then 4 48 from_4 (number_at 4 from_4) _ (takes_number 4 from_4) (λ header_size from_8.
    takes_then 4 44 from_8 (number_at 4 from_8) _ (takes_number 4 from_8) (λ minimum_index from_12.
    takes_then 4 40 from_12 (number_at 4 from_12) _ (takes_number 4 from_12) (λ maximum_index from_16.
    takes_then 4 36 from_16 (number_at 4 from_16) _ (takes_number 4 from_16) (λ gprec_size from_20.
    takes_then 2 34 from_20 (number_at 2 from_20) _ (takes_number 2 from_20) (λ tpi_hash_stream from_22.
    takes_then 2 32 from_22 (number_at 2 from_22) _ (takes_number 2 from_22) (λ tpi_hash_pad_stream from_24.
    takes_then 4 28 from_24 (number_at 4 from_24) _ (takes_number 4 from_24) (λ hash_key_size from_28.
    takes_then 4 24 from_28 (number_at 4 from_28) _ (takes_number 4 from_28) (λ hash_bucket_size from_32.
    takes_then 8 16 from_32 (slice_of from_32) _ (takes_slice from_32) (λ hash_values from_40.
    takes_then 8 8 from_40 (slice_of from_40) _ (takes_slice from_40) (λ ti_off from_48.
    takes_then 8 0 from_48 (slice_of from_48) _ (takes_slice from_48)
    (λ hash_adj from_56. takes_nothing _ from_56))))))))))))

-- a table whose bytes are fewer than the fields take is refused
pub too_short : (bytes : List ℕ) → 0 < length bytes → length bytes < 56 → header_of bytes ≡ Err unexpected_eof
unfolding header_of read_header_of
too_short [] some short = absurd (omega arith)
too_short (byte ∷ bytes) some short = elim (takes_fields (byte ∷ bytes)) [
  | cut less is ↦ rw is refl
  | whole fields rest is left ↦ absurd (omega arith)
]
