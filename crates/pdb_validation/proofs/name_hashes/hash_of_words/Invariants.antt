use Rattle.std.proofs.Common.{◌≡◌}
use Rattle.pdb_validation.specs.NameHashes.{hash_of_words}
use Rattle.pdb_validation.proofs.name_hashes.hash_of_words.Given as goal

abbrev pub invariant-loop-place : goal.invariant-loop-place
invariant-loop-place l = l.hash ≡ hash_of_words l.version l.name l.place
