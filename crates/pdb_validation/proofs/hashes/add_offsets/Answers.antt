use Rattle.pdb_validation.specs.Hashes.{offset_mismatch}
use Rattle.pdb_validation.proofs.PlaceLemmas.{places_more, places_none}
use Rattle.pdb_validation.proofs.hashes.add_offsets.Goals as goal

pub loop-place-init : goal.loop-place-init
loop-place-init g c = places_none _ _ _

pub loop-place-preserved : goal.loop-place-preserved
loop-place-preserved g c =
    places_more c.args.extent (offset_mismatch c.args.number c.args.table.now.table c.args.offsets.now) _ _ _ _ _
    c.loop-place.invariant c.offset_mismatch.ensures c.in_ok-add.ensures
