use Rattle.std.proofs.Common.{◌≡◌}
use Rattle.pdbdump_layouts.proofs.show.allowed_count.Given as goal

abbrev pub invariant-loop-place : goal.invariant-loop-place
invariant-loop-place l = record {
  shown : l.progress.has_shown ≡ l.fn.progress.has_shown;
  whole : l.progress.is_whole ≡ l.fn.progress.is_whole;
}
