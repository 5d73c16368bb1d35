use Rattle.pdb_validation.proofs.RecordLemmas.{adding_ended, adding_more, adding_none, adding_stopped}
use Rattle.pdb_validation.proofs.records.check_records.Goals as goal

pub loop-item-init : goal.loop-item-init
loop-item-init g c = adding_none _ _ _ _ _ _ c.new-mismatches.ensures.items c.iter-items.ensures

pub loop-item-preserved : goal.loop-item-preserved
loop-item-preserved g c =
    adding_more _ _ _ _ _ _ _ _ _ _ _ _ _ _ c.loop-item.invariant
    (rw c.in-Ok-Some.field-0-is at c.in-Ok-Some.ensures) c.place-index.ensures.index c.place-index.ensures.place
    c.in_ok-what-in-Ok-Some.ensures c.as_bytes.ensures (rw c.STREAM.ensures at c.in_ok-add_record-in-Ok-Some.ensures)

pub returns-in-Ok-None : goal.returns-in-Ok-None
returns-in-Ok-None g c =
    adding_ended _ _ _ _ _ _ _ _ c.loop-item.invariant (rw c.in-Ok-None.field-0-is at c.in-Ok-None.ensures)

pub returns-in-Err : goal.returns-in-Err
returns-in-Err g c = adding_stopped _ _ _ _ _ _ _ _ _ c.loop-item.invariant c.in-Err.ensures
