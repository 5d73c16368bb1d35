use Rattle.std.proofs.Common.{◌≡◌, ℕ, ◌+◌, ◌*◌, get_or, arith, subst, sym, ◌∙◌}
use Rattle.std.specs.Char.{digit_value}
use Rattle.pdb_cli.proofs.WordLemmas.{HasRead, read_more, too_large}
use Rattle.pdb_cli.proofs.words.number_in_digits.Goals as goal

pub loop-digit-preserved : goal.loop-digit-preserved
loop-digit-preserved c =
    let digits = c.args.digits.now in
    let i = c.loop-digit.digit-index in
    let digit = c.in_ok-digit.ensures.value in
    let value : c.loop-digit.value * c.args.base + digit_value (get_or digits i 0) ≡ c.in_ok-value.value =
    omega (arith, digit.1, c.in_ok-shifted.ensures.1, c.in_ok-value.ensures.1) in
    record {
      read = subst (λ (value : ℕ). HasRead c.args.base digits (i + 1) value) value
          (read_more c.args.base digits i c.loop-digit.value c.loop-digit-test.true c.loop-digit.invariant.read
          digit.0);
      fits = omega (arith, c.in_ok-value.ensures.0, c.in_ok-value.ensures.1);
    }

pub returns-in_err-shifted : goal.returns-in_err-shifted
returns-in_err-shifted c =
    let digits = c.args.digits.now in
    let i = c.loop-digit.digit-index in
    let digit = c.in_ok-digit.ensures.value in
    let more = read_more c.args.base digits i c.loop-digit.value c.loop-digit-test.true c.loop-digit.invariant.read
    digit.0 in
    c.from_residual-in_err-shifted.ensures
    ∙ sym (too_large c.args.base c.args.most digits (i + 1) (omega arith)
    (grind (arith, more.value_is, c.in_err-shifted.ensures)))

pub returns-in_err-value : goal.returns-in_err-value
returns-in_err-value c =
    let digits = c.args.digits.now in
    let i = c.loop-digit.digit-index in
    let digit = c.in_ok-digit.ensures.value in
    let more = read_more c.args.base digits i c.loop-digit.value c.loop-digit-test.true c.loop-digit.invariant.read
    digit.0 in
    c.from_residual-in_err-value.ensures
    ∙ sym (too_large c.args.base c.args.most digits (i + 1) (omega arith)
    (grind (arith, more.value_is, digit.1, c.in_ok-shifted.ensures.1, c.in_err-value.ensures)))
