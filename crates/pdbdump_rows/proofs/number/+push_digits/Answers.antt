-- The digits in front, and the last.
use Rattle.std.proofs.Common.{ℕ, ◌/◌, ◌%◌, false, List, [], ◌∷◌, ◌++◌, sym, ap, ◌∙◌, arith, append_assoc}
use Rattle.std.specs.Fmt.{digits, digit_glyph}
use Rattle.pdbdump_rows.proofs.Digits.{hexadecimal_more}
use Rattle.pdbdump_rows.proofs.number.+push_digits.Goals as goal

pub returns : goal.returns
returns t c =
    let before = c.args.out.now.items in
    let front = digits 16 false (c.args.number / 16) in
    c.in_ok-push-2.ensures.items
    ∙ ap (λ (items : List ℕ). items ++ c.digit-2.result ∷ []) c.in_ok-push_digits.ensures
    ∙ ap (λ (digit : ℕ). (before ++ front) ++ digit ∷ []) c.digit-2.ensures
    ∙ append_assoc before front (digit_glyph false (c.args.number % 16) ∷ [])
    ∙ ap (λ (all : List ℕ). before ++ all) (sym (hexadecimal_more c.args.number (omega arith) (omega arith)))
