use Rattle.pdb_frames.proofs.SortLemmas.{sorted_by_start}
use Rattle.pdb_frames.proofs.laws.insertion_sorts.Goals as goal

pub returns : goal.returns
returns c = sorted_by_start
