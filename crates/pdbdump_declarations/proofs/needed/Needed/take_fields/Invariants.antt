use Rattle.std.proofs.Common.{◌≡◌}
use Rattle.pdbdump_declarations.proofs.needed.Needed.take_fields.Given as goal

abbrev pub invariant-loop : goal.invariant-loop
invariant-loop l = record {
  shown : l.progress.has_shown ≡ l.fn.progress.has_shown;
  whole : l.progress.is_whole ≡ l.fn.progress.is_whole;
}
