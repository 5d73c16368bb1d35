-- What stands there at each exit.
use Rattle.std.proofs.Common.{refl, ap}
use Rattle.pdb_base.proofs.lemmas.Refused.{passed_on}
use Rattle.pdbdump_rows.specs.Lines.{row_text}
use Rattle.pdbdump_rows.proofs.lemmas.Line.{made_written}
use Rattle.pdbdump_tables.proofs.ListingLemmas.{ends_cut, ends_lacking, ends_stopped, ends_whole, next_written}
use Rattle.pdbdump_tables.proofs.ListingLemmas.{counted_all, so_far_first}
use Rattle.pdb_tpi.specs.Steps.{WalkPosition}
use Rattle.pdbdump_tables.proofs.item_listing.list_items.Goals as goal

pub loop-line-init : goal.loop-line-init
loop-line-init g c = so_far_first _ _ _ _ (ap (λ (s : WalkPosition). s.table) c.iter-items.ensures)
    (ap (λ (s : WalkPosition). s.index) c.iter-items.ensures)

pub returns-in_err-item-clause-lists : goal.returns-in_err-item-clause-lists
returns-in_err-item-clause-lists g c = rw (passed_on _ _ c.from_residual.ensures.1)
    (ends_stopped _ _ _ _ _ _ _ _ c.loop-line.invariant c.in_err-item.ensures)

pub returns-in_err-make_item-clause-lists : goal.returns-in_err-make_item-clause-lists
returns-in_err-make_item-clause-lists g c =
    rw (passed_on _ _ c.from_residual-in_err-make_item.ensures.1)
    (ends_lacking _ _ _ _ _ _ c.loop-line.invariant refl)

pub returns-in_err-write-clause-lists : goal.returns-in_err-write-clause-lists
returns-in_err-write-clause-lists g c =
    rw (passed_on _ _ c.from_residual-in_err-write.ensures.1)
    (ends_cut _ _ _ _ _ c.in-Some.item _ _ _ _ c.loop-line.invariant
    (rw c.in-Some.is at c.in_ok-item.ensures) c.in_err-write.ensures.failed
    (made_written (row_text c.args.form) _ _ _ _ _ _ c.in_ok-make_item.ensures c.as_bytes.ensures
    c.in_err-write.ensures.bytes))

pub loop-line-preserved : goal.loop-line-preserved
loop-line-preserved g c =
    next_written _ _ _ _ _ c.in-Some.item _ _ _ c.loop-line.invariant (rw c.in-Some.is at c.in_ok-item.ensures)
    (made_written (row_text c.args.form) _ _ _ _ _ _ c.in_ok-make_item.ensures c.as_bytes.ensures
    c.in_ok-write.ensures.bytes)

pub returns-in_default-clause-lists : goal.returns-in_default-clause-lists
returns-in_default-clause-lists g c =
    ends_whole _ _ _ _ _ _ _ c.loop-line.invariant (rw c.in_default.is at c.in_ok-item.ensures)

pub returns-in_default-clause-counts : goal.returns-in_default-clause-counts
returns-in_default-clause-counts g c =
    counted_all _ _ _ _ _ _ _ _ c.loop-line.invariant.same (rw c.in_default.is at c.in_ok-item.ensures)
    c.place-index.ensures.index c.place-index.ensures.place c.header.ensures.header
    c.up_to.ensures.counted c.up_to.ensures.present
