-- What stands there at each exit.
use Rattle.std.proofs.Common.{[], inl, inr, ap, ◌∙◌}
use Rattle.pdb_base.proofs.lemmas.Refused.{passed_on}
use Rattle.pdbdump_rows.proofs.lemmas.Rows.{line_of_row, lines_more, lines_none}
use Rattle.pdb_tpi.specs.Steps.{WalkPosition}
use Rattle.pdbdump_tables.proofs.ListingLemmas.{counted_all}
use Rattle.pdbdump_tables.proofs.item_listing.list_selected.Goals as goal

pub records-init : goal.records-init
records-init g c = (lines_none _ _, ap (λ (s : WalkPosition). s.table) c.iter-items.ensures)

pub returns-in_err-item-clause-lists : goal.returns-in_err-item-clause-lists
returns-in_err-item-clause-lists g c = inl c.records.invariant.0

pub returns-in_default-clause-lists : goal.returns-in_default-clause-lists
returns-in_default-clause-lists g c = inl c.records.invariant.0

pub returns-in_err-write_line-clause-lists : goal.returns-in_err-write_line-clause-lists
returns-in_err-write_line-clause-lists g c =
    rw (passed_on _ _ c.from_residual-in_err-write_line.ensures.1)
    (inr (lines_more _ _ _ _ _
    (line_of_row _ [] _ _ _ _ _ c.in_err-write_line.ensures c.in_ok-show_selected.ensures c.begin.ensures)
    c.records.invariant.0))

pub records-preserved : goal.records-preserved
records-preserved g c = (
  lines_more _ _ _ _ _
      (line_of_row _ [] _ _ _ _ _ c.in_ok-write_line.ensures c.in_ok-show_selected.ensures c.begin.ensures)
      c.records.invariant.0,
  c.in_ok-item.ensures.stays ∙ c.records.invariant.1,
)

pub returns-in_default-clause-counts : goal.returns-in_default-clause-counts
returns-in_default-clause-counts g c =
    counted_all _ _ _ _ _ _ _ _ c.records.invariant.1 (rw c.in_default.is at c.in_ok-item.ensures)
    c.place-index.ensures.index c.place-index.ensures.place c.header.ensures.header
    c.up_to-counts.ensures.counted c.up_to-counts.ensures.present
