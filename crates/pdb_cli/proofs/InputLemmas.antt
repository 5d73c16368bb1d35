-- What reads take from an input, one after another.
use Rattle.std.proofs.Common.{◌≡◌, ℕ, ◌<◌, List, [], ◌++◌, length, append-nil, Ok, IfSome, refl, sym, ap, subst, ◌∙◌}
use Rattle.std.proofs.Common.{take}
use Rattle.std.proofs.Math.Seq.{take-append_seam}
use Rattle.std.specs.declared.option.Option.{Option}
use Rattle.std.specs.Io.KnownBytes.{Consumes, ReadConsumes}
use Rattle.std.proofs.KnownBytes.{Consumes-trans, Consumes-all}

-- where a read with room gives nothing, the input has given all that it had
pub read_whole : (E : Type 0) (first old new : Option (List ℕ)) (room bytes : List ℕ) → 0 < length room
    → Consumes first old bytes → ReadConsumes {E = E} old new (Ok 0) room → IfSome first (λ xs. bytes ≡ xs)
read_whole E first old new room bytes some before read =
    let all = subst (Consumes first new) (append-nil bytes) (Consumes-trans first old new bytes [] before read.0) in
    Consumes-all first new bytes [] bytes all (read.1 refl some) refl

-- a block that was read into stands whole where it stood before
pub block_read : (len : ℕ) (room rest : List ℕ) → length room ≡ len → take len (room ++ rest) ≡ room
block_read len room rest long = ap (λ (k : ℕ). take k (room ++ rest)) (sym long) ∙ take-append_seam room rest
