use Rattle.std.proofs.Common.{ap}
use Rattle.pdb_base.specs.Place.{left}
use Rattle.pdb_validation.proofs.SymbolLemmas.{behind_told}
use Rattle.pdb_validation.proofs.symbols.behind_symbol.Goals as goal

pub returns : goal.returns
returns c =
    behind_told c.args.bytes.now _ _ _ _ _ (ap left c.from-buffer.ensures) c.in_ok-length.ensures.read
    c.if-length-lt2.false c.in_ok-take.ensures.read
