use Rattle.pdbdump_cli.proofs.DiffLemmas.{silent_whole}
use Rattle.pdbdump_cli.proofs.diffed.compare.Goals as goal

pub returns : goal.returns
returns g c = λ zero. silent_whole _ _ _ _ _ _ _ c.show_differences-compared.ensures (c.end_diff.ensures zero)
