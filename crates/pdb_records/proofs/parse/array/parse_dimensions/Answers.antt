use Rattle.std.proofs.Common.{inl, inr, ◌∙◌}
use Rattle.pdb_base.specs.Place.{left}
use Rattle.pdb_base.proofs.lemmas.Refused.{passed_on}
use Rattle.pdb_records.specs.Dimensions.{dimension_at}
use Rattle.pdb_records.proofs.DimensionSteps.{step_refused, loop_ends, loop_fails, loop_goes, loop_shorter}
use Rattle.pdb_records.proofs.NoWant.{dimension_no_want}
use Rattle.pdb_records.specs.Memory.{HoldsDimension}
use Rattle.pdb_records.proofs.MemoryLemmas.{passes_no_want, holds_now, dimension_there}
use Rattle.pdb_records.proofs.parse.array.parse_dimensions.Goals as goal

pub returns-in_err-parse_dimension-clause-read : goal.returns-in_err-parse_dimension-clause-read
returns-in_err-parse_dimension-clause-read c =
    rw (passed_on _ _ c.from_residual.ensures.1)
    (inl (c.all.invariant.all ∙ step_refused c.all.dimensions.items
    (left c.all.buffer) _ c.in_err-parse_dimension.ensures))

pub returns-in_err-parse_dimension-clause-memory : goal.returns-in_err-parse_dimension-clause-memory
returns-in_err-parse_dimension-clause-memory c =
    passes_no_want (dimension_at (left c.all.buffer)) _ _ _
    (dimension_no_want (left c.all.buffer)) c.in_err-parse_dimension.ensures c.from_residual.ensures.1

pub returns-in_err-push-clause-memory : goal.returns-in_err-push-clause-memory
returns-in_err-push-clause-memory c = λ want.
    holds_now HoldsDimension (left c.all.buffer) (left c.args.buffer.now) c.all.invariant.begun
    (dimension_there (left c.all.buffer) _ _ c.in_ok-parse_dimension.ensures)

pub returns-in_err-ends_dimensions-clause-read : goal.returns-in_err-ends_dimensions-clause-read
returns-in_err-ends_dimensions-clause-read c =
    rw (passed_on _ _ c.from_residual-in_err-ends_dimensions.ensures.1)
    (inl (c.all.invariant.all ∙ loop_fails c.all.dimensions.items
    (left c.all.buffer) _ _ _ c.in_ok-parse_dimension.ensures c.in_err-ends_dimensions.ensures))

pub returns-then-branch-clause-read : goal.returns-then-branch-clause-read
returns-then-branch-clause-read c =
    rw c.in_ok-push.ensures.items
    (c.all.invariant.all ∙ loop_ends c.all.dimensions.items (left c.all.buffer) _ _ _ c.in_ok-parse_dimension.ensures
    (rw c.if-branch.true at c.in_ok-ends_dimensions.ensures))

pub all-preserved : goal.all-preserved
all-preserved c =
    let here = dimension_there (left c.all.buffer) _ _ c.in_ok-parse_dimension.ensures in
    rw c.in_ok-push.ensures.items (record {
      all = c.all.invariant.all ∙ loop_goes c.all.dimensions.items
          (left c.all.buffer) _ _ _ c.in_ok-parse_dimension.ensures
          (rw c.if-branch.false at c.in_ok-ends_dimensions.ensures);
      begun = inr (holds_now HoldsDimension (left c.all.buffer) (left c.args.buffer.now) c.all.invariant.begun here);
    })

pub all-smaller : goal.all-smaller
all-smaller c = loop_shorter (left c.all.buffer) _ _ _ c.in_ok-parse_dimension.ensures
    (rw c.if-branch.false at c.in_ok-ends_dimensions.ensures)
