use Rattle.std.proofs.Common.{refl, sym, ◌∙◌}
use Rattle.std.proofs.lemmas.List.{map-append}
use Rattle.std.proofs.lemmas.List.Sorted.{IsPermutation-sym}
use Rattle.pdb_types.proofs.definitions.Definitions.declaration_order.Goals.{in-Leave+in_ok-leave-in-Leave}
use Rattle.pdb_types.proofs.definitions.Definitions.declaration_order.Goals.{in-Enter+in-Some-Done}
use Rattle.pdb_types.proofs.definitions.Definitions.declaration_order.Goals.{
  in-Enter+in-None+in_ok-needs-in-None+in_ok-enter-in-None,
}
use Rattle.pdb_types.specs.Needs.{numbers}
use Rattle.pdb_types.proofs.OrderLemmas.{starts, skip, cycle, ends, opens, leave, kept_in, none_left}
use Rattle.pdb_types.proofs.definitions.Definitions.declaration_order.Goals as goal

pub loop-init : goal.loop-init
loop-init c =
    let h = c.in_ok-search.ensures in
    rw (h.steps, h.order) (starts _ c.args.roots.now _ (λ q. rw h.marks refl))

pub loop-preserved : goal.loop-preserved
loop-preserved c =
    let popped = rw c.in-Some.ensures.items at c.loop.invariant in
    elim c.match-step.branch [
      | in-Leave+in_ok-leave-in-Leave w ↦
          let h = w.in_ok-leave-in-Leave.ensures in
          rw (w.search-is, h.steps, h.order, map-append)
          (leave _ _ _ w.in-Leave.index _ _ _ (rw w.in-Leave.is at popped) h.marks.0)
      | in-Enter+in-Some-Done w ↦
          rw w.search-is (skip _ _ _ w.in-Enter.index _ _ (rw w.in-Enter.is at popped)
          (sym (rw w.in-Some-Done.field-0-is at w.in-Some-Done.ensures.value)))
      | in-Enter+in-None+in_ok-needs-in-None+in_ok-enter-in-None w ↦
          let h = w.in_ok-enter-in-None.ensures in
          let found = w.in_ok-needs-in-None.needs.items in
          rw (w.search-is, h.steps, h.order)
          (opens _ _ _ w.in-Enter.index w.deref-in-None.result.now (numbers found) _ _ _
          (rw w.in-Enter.is at popped) (sym w.in-None.ensures.value) w.in_ok-needs-in-None.ensures.needs
          (rw w.deref-in-None.ensures.value (kept_in w.reverse.new.self.items found
          (IsPermutation-sym _ _ w.reverse.ensures.permutation)))
          (rw w.deref-in-None.ensures.value (kept_in found w.reverse.new.self.items w.reverse.ensures.permutation))
          h.marks.0)
    ]

pub returns-in-Some-Open-clause-order : goal.returns-in-Some-Open-clause-order
returns-in-Some-Open-clause-order c =
    rw (c.in_ok-cycle-in-Some-Open.ensures, c.deref.ensures.value)
    (cycle _ _ _ c.in-Enter.index _ _ (rw (c.in-Some.ensures.items, c.in-Enter.is) at c.loop.invariant)
    (sym (rw c.in-Some-Open.field-0-is at c.in-Some-Open.ensures.value)))

pub returns-in_default-clause-order : goal.returns-in_default-clause-order
returns-in_default-clause-order c =
    ends _ _ _ _ (rw (none_left c.loop.search.steps.items (sym c.loop.search.steps.ok.0
    ∙ c.in_default.ensures.cases.0)) at c.loop.invariant)
