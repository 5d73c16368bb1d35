use Rattle.std.proofs.Common.{◌≡◌, drop}
use Rattle.std.specs.List.{fold}
use Rattle.pdb_validation.specs.NameHashes.{stir}
use Rattle.pdb_validation.proofs.name_hashes.stir_bytes.Given as goal

abbrev pub invariant-loop-byte : goal.invariant-loop-byte
invariant-loop-byte l = fold (stir l.version) l.hash (drop l.byte-index l.bytes)
    ≡ fold (stir l.version) l.initial.hash l.bytes
