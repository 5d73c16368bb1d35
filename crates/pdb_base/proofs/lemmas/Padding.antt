-- What `{:04x}` writes, in the words of `ErrorText`.
use Rattle.std.proofs.Common.{◌≡◌, ℕ, ◌-◌, ◌^◌, List, [], ◌++◌, length, replicate, false}
use Rattle.std.proofs.Math.Nat.{sub-zero}
use Rattle.std.specs.Fmt.{padded_integral, format_spec, char_count}
use Rattle.std.proofs.lemmas.List.{append-nil}

pub padded_with_zeros : (digits : List ℕ)
    → padded_integral (format_spec 32 0 4 4 (2 ^ 64 - 1)) false [] digits ≡ replicate (4 - length digits) 48 ++ digits
unfolding padded_integral char_count
padded_with_zeros digits = simp (append-nil, sub-zero)

pub padded_to_two : (digits : List ℕ) → padded_integral (format_spec 32 0 4 2 (2 ^ 64 - 1)) false [] digits
    ≡ replicate (2 - length digits) 48 ++ digits
unfolding padded_integral char_count
padded_to_two digits = simp (append-nil, sub-zero)
