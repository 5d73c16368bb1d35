use Rattle.pdbdump_differences.proofs.ComparedLemmas.{written}
use Rattle.pdbdump_differences.proofs.differences.write_change.Goals as goal

pub returns-in-Ok-Some : goal.returns-in-Ok-Some
returns-in-Ok-Some g c =
    written _ _ _ _ _ _ c.write_layout.ensures.whole c.write_layout.ensures.shown
