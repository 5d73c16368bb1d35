use Rattle.pdb_frames.proofs.LawLemmas.{is_merged}
use Rattle.pdb_frames.proofs.laws.merge_is_exact.Goals as goal

pub returns : goal.returns
returns c = is_merged
