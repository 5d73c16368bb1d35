use Rattle.std.proofs.Common.{◌≤◌, length, subst, sym, ap, ◌∙◌, arith}
use Rattle.pdb_tpi.specs.Item.{item_bytes}
use Rattle.pdb_tpi.specs.Table.{Table}
use Rattle.pdb_tpi.specs.Steps.{WalkPosition}
use Rattle.pdb_tpi.proofs.PositionLemmas.{step_goes, step_placed, step_stays}
use Rattle.pdb_tpi.proofs.open_walk.OpenWalk.step.Goals as goal

pub returns-in_default-clause-place : goal.returns-in_default-clause-place
returns-in_default-clause-place g c =
    let stand : Table → WalkPosition = λ t. record { table = t; index = c.self.inside.index } in
    rw (← c.self.view_is) (step_stays _ _ _ _ (c.at-items.ensures ∙ ap stand c.items.ensures)
    (rw c.in_default.is at c.in_ok-item.ensures))

pub record_before-requires-clause-before : goal.record_before-requires-clause-before
record_before-requires-clause-before g c =
    let stand : Table → WalkPosition = λ t. record { table = t; index = c.self.inside.index } in
    let least = subst (λ (s : WalkPosition). s.table.header.minimum_index ≤ s.index)
    (sym (c.at-items.ensures ∙ ap stand c.items.ensures)) c.self.invariant.least in
    let there = step_placed _ _ _ c.in-Some.item c.place-index.result.1 least (rw c.in-Some.is at c.in_ok-item.ensures)
    c.place-index.ensures.place in
    let before : length (item_bytes c.in-Some.item) ≤ c.place-index.result.1 = there.before in
    omega (arith, before, c.len.ensures)

pub returns-clause-place : goal.returns-clause-place
returns-clause-place g c =
    let stand : Table → WalkPosition = λ t. record { table = t; index = c.self.inside.index } in
    rw (← c.self.view_is)
    (step_goes _ _ _ _ _ _ c.len.result c.place-index.result.1 _ (c.at-items.ensures ∙ ap stand c.items.ensures)
    c.self.invariant.least (rw c.in-Some.is at c.in_ok-item.ensures) c.place-index.ensures.place
    c.place-index.ensures.index c.len.ensures c.record_before.ensures)
