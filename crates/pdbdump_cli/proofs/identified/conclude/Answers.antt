use Rattle.std.proofs.Common.{◌≡◌, Ok, false, refl}
use Rattle.pdbdump_cli.specs.Identified.{differs}
use Rattle.pdbdump_cli.proofs.identified.conclude.Goals as goal

pub returns-in-Ok-false : goal.returns-in-Ok-false
returns-in-Ok-false g c =
    let is : c.args.identified ≡ Ok false = (rw (
      c.in-Ok-false.is,
      ← c.in-Ok-false.field-0-is,
      c.in-Ok-false.field-0-test,
    ) refl) in
    differs c.end-in-Ok-false.new.err c.end-in-Ok-false.result _ is c.end-in-Ok-false.ensures c.report.ensures refl
