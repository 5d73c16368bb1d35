use Rattle.pdb_records.proofs.ShortLemmas.{record_short}
use Rattle.pdb_records.proofs.laws.short_lists.Goals as goal

pub returns : goal.returns
returns c = record_short
