use Rattle.pdb_base.proofs.NulLemmas.{nul_bits}
use Rattle.pdb_base.proofs.nul.nuls_among.Goals as goal

pub returns : goal.returns
returns g c k = nul_bits c.args.bytes.now c.args.start g.row.WIDTH c.requires.room c.requires.width k
