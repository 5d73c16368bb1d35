use Rattle.std.proofs.Common.{◌≡◌, arith, refl, subst, Bool, None}
use Rattle.std.proofs.lemmas.Grind.{common_steps}
use Rattle.pdb_tpi.specs.Steps.{WalkPosition}
use Rattle.pdb_handles.specs.Walked.{IsToldAt}
use Rattle.pdb_handles.proofs.WalkedLemmas.{stays, told_behind, written_more}
use Rattle.pdb_handles.proofs.walked.write_next.Goals as goal

pub returns-in-Ok-None : goal.returns-in-Ok-None
returns-in-Ok-None c =
    let step = rw c.in-Ok-None.field-0-is at c.in-Ok-None.ensures.place in
    let there : c.step.new.self ≡ c.loop-at.records.types =
    (stays c.loop-at.records.types (None, c.step.new.self) step).1 refl in
    rw there (grind (arith, common_steps, step))

pub loop-at-preserved : goal.loop-at-preserved
loop-at-preserved c =
    let step = rw c.in-Ok-Some.field-0-is at c.in-Ok-Some.ensures.place in
    let stand : WalkPosition = c.loop-at.records.types in
    let told = subst (λ (ids : Bool). IsToldAt ids stand c.in-Ok-Some.place c.write_record.new.told)
    c.loop-at.invariant.ids (told_behind c.loop-at.records.are_ids stand c.step.new.self _ c.in-Ok-Some.place
    c.write_record.new.told (omega (arith, c.index.ensures, c.min-index.ensures)) step c.write_record.ensures) in
    written_more c.args.rows.now c.loop-at.rows _ c.args.records.now c.loop-at.records c.step.new.self c.loop-at.at
    c.in-Ok-Some.place c.write_record.new.told (omega arith) c.loop-at.invariant step told refl
