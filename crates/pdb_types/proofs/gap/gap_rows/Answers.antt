use Rattle.pdb_types.proofs.GapLemmas.{rows_are}
use Rattle.pdb_types.proofs.gap.gap_rows.Goals as goal

pub returns : goal.returns
returns c =
    rw (
      c.in_ok-push_unused.ensures,
      c.deref-5.ensures.value,
      c.in_ok-push_tail.ensures,
      c.in_ok-rows.ensures,
      c.deref-3.ensures.value,
    )
    (rows_are _ _ _ _ _ _
    (rw (c.deref-2.ensures.value, c.in_ok-bytes.ensures, c.deref.ensures.value) at c.tail_start-tail.ensures.is)
    (rw (c.in_ok-bytes.ensures, c.deref.ensures.value) at c.in_ok-holes.ensures)
    (rw (
      c.in_ok-taken.ensures,
      c.deref-4.ensures.value,
      c.in_ok-push_tail.ensures,
      c.in_ok-rows.ensures,
      c.deref-3.ensures.value,
    ) at c.in_ok-unused.ensures))
