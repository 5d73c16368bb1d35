use Rattle.std.proofs.Common.{◌≡◌, ◌*◌, ◌%◌, ◌^◌}
use Rattle.std.proofs.lemmas.Nat.{one_shl}
use Rattle.pdb_base.proofs.lemmas.Shifts.{shifted_and_masked, bits_below, bits_of_all}
use Rattle.pdb_base.proofs.bits.bit_field.Goals as goal

pub returns-then-count-lt32-clause-field : goal.returns-then-count-lt32-clause-field
returns-then-count-lt32-clause-field c =
    let ones : 1 * 2 ^ c.args.count % 2 ^ 32 ≡ 2 ^ c.args.count = one_shl c.args.count 32 c.if-count-lt32.true in
    rw (c.bits_from-shifted.ensures, ones) (shifted_and_masked c.args.word c.args.place c.args.count)

pub returns-else-count-lt32-clause-below : goal.returns-else-count-lt32-clause-below
returns-else-count-lt32-clause-below c =
    rw (
      c.bits_from-shifted.ensures,
      bits_of_all c.args.word c.args.place c.args.count c.ranges.word.fits
          c.if-count-lt32.false,
    ) (bits_below c.args.word c.args.place c.args.count)
