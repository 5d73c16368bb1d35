use Rattle.std.proofs.Common.{refl, arith}
use Rattle.std.proofs.lemmas.Bool.{false≢true}
use Rattle.pdb_space.proofs.OrderLemmas.{sorted-at_end, falls}
use Rattle.pdb_space.proofs.omap_table.OMAPTable.is_sorted.Goals as goal

pub returns-then-source_address-highest : goal.returns-then-source_address-highest
returns-then-source_address-highest c = (
  λ is. absurd (false≢true is),
  λ sorted. absurd
      (falls c.loop-record.highest c.loop-record.record-iterator c.next.new.self c.args.self.now c.in-Some.record
      c.loop-record.invariant c.in-Some.ensures.steps (omega arith) sorted),
)

pub returns : goal.returns
returns c = (
  λ is. sorted-at_end c.loop-record.highest c.loop-record.record-iterator c.args.self.now
      c.loop-record.invariant c.in-None.ensures.steps.0,
  λ sorted. refl,
)
