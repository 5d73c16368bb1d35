use Rattle.std.proofs.Common.{rules, append_assoc}
use Rattle.pdb_base.proofs.buffer_text.ParseBufferLowerHex.fmt.Goals as goal

pub returns : goal.returns
returns g c = simp append_assoc (search rules)
