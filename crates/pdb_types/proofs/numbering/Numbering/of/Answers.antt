use Rattle.std.proofs.Common.{◌≡◌, ◌∙◌, ap, arith, length, refl}
use Rattle.std.proofs.lemmas.List.{take_all}
use Rattle.pdb_types.proofs.numbering.Numbering.of.Goals as goal

pub returns-clause-numbering : goal.returns-clause-numbering
returns-clause-numbering c =
    let table = c.args.types.now.table in
    let short = rw c.items.ensures at c.header-least.ensures.sound.short in
    let whole = take_all 0xffff_ffff table.bytes (omega (arith, short)) in
    let long : length c.bytes_at.result.now ≡ length table.bytes = ap length c.bytes_at.ensures ∙ ap length whole in
    rw (c.min.ensures, c.header-least.ensures.header, c.items.ensures, long) refl
