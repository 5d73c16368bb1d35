use Rattle.std.proofs.Common.{refl}
use Rattle.pdb_validation.proofs.WalkLemmas.{checking_ended, checking_enough, checking_more, checking_none}
use Rattle.pdb_validation.proofs.WalkLemmas.{checking_stopped}
use Rattle.pdb_validation.proofs.tables.add_records.Goals as goal

pub loop-item-init : goal.loop-item-init
loop-item-init g c = rw (c.iter-items.ensures, c.items.ensures) (checking_none _ _ _ _ _)

pub loop-item-preserved : goal.loop-item-preserved
loop-item-preserved g c =
    checking_more _ _ _ _ _ _ _ _ _ _ _ _ _ _ _ _ _ c.loop-item.invariant
    (rw c.in-Ok-Some.field-0-is at c.in-Ok-Some.ensures) c.place-index.ensures.index c.place-index.ensures.place
    c.in_ok-found-in-Ok-Some.ensures c.in_ok-add_until-in-Ok-Some.ensures.added
    c.in_ok-add_until-in-Ok-Some.ensures.last c.if-branch.false

pub returns-then-branch : goal.returns-then-branch
returns-then-branch g c =
    checking_enough _ _ _ _ _ _ _ _ _ _ _ _ _ _ _ _ _ c.loop-item.invariant
    (rw c.in-Ok-Some.field-0-is at c.in-Ok-Some.ensures) c.place-index.ensures.index c.place-index.ensures.place
    c.in_ok-found-in-Ok-Some.ensures c.in_ok-add_until-in-Ok-Some.ensures.added
    c.in_ok-add_until-in-Ok-Some.ensures.last c.if-branch.true

pub returns-in-Ok-None : goal.returns-in-Ok-None
returns-in-Ok-None g c =
    rw (checking_ended _ _ _ _ _ _ _ _ _ _ _ _ _ _ _ c.loop-item.invariant
    (rw c.in-Ok-None.field-0-is at c.in-Ok-None.ensures) c.place-index.ensures.index c.place-index.ensures.place
    (rw (c.header-maximum.ensures.header, c.items-in-Ok-None.ensures) refl) c.missing-found.ensures) c.add.ensures

pub returns-in-Err : goal.returns-in-Err
returns-in-Err g c =
    rw (checking_stopped _ _ _ _ _ _ _ _ _ _ _ _ _ _ _ c.loop-item.invariant c.in-Err.ensures
    c.place-index.ensures.index c.place-index.ensures.place c.at_record-found.ensures) c.add-in-Err.ensures
