use Rattle.std.proofs.Common.{rules, append_assoc}
use Rattle.pdb_base.proofs.error.ErrorDisplay.fmt.Goals as goal

-- five pieces are more than the search regroups by itself
pub returns-in-TypeNotIndexed-clause-writes : goal.returns-in-TypeNotIndexed-clause-writes
returns-in-TypeNotIndexed-clause-writes g c = rw c.in-TypeNotIndexed.is (simp append_assoc (search rules))
