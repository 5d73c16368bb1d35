-- A text in an array, with a NUL behind it.
use Rattle.std.proofs.Common.{◌≡◌, ℕ, suc, ◌+◌, ◌<◌, List, ◌∷◌, ◌++◌, length, drop, set, ap, ◌∙◌, arith}
use Rattle.std.proofs.Math.Seq.{drop-cons, set-append_seam}

pub text_put : (room text : List ℕ) → length text < length room
    → set (text ++ drop (length text) room) (length text) 0 ≡ text ++ 0 ∷ drop (length text + 1) room
text_put room text more =
    let next : suc (length text) ≡ length text + 1 = omega arith in
    ap (λ (rest : List ℕ). set (text ++ rest) (length text) 0) (drop-cons room (length text) 0 more)
    ∙ set-append_seam text _ _ 0 ∙ ap (λ (n : ℕ). text ++ 0 ∷ drop n room) next
