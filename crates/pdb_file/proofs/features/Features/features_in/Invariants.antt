-- The features so far, and those of the numbers that are left, are all.
use Rattle.pdb_file.proofs.FeatureLemmas.{ToldFrom}
use Rattle.pdb_file.proofs.features.Features.features_in.Given as goal

abbrev pub invariant-loop-place : goal.invariant-loop-place
invariant-loop-place l = ToldFrom l.bytes l.place l.told
