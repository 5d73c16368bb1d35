use Rattle.std.proofs.Common.{◌≡◌, ◌+◌, length, map, take}
use Rattle.pdb_file.specs.StreamNames.{named_view}
use Rattle.pdb_handles.specs.StreamNames.{names_of_all}
use Rattle.pdb_handles.proofs.stream_names.names_fit.Given as goal

abbrev pub invariant-loop-named : goal.invariant-loop-named
invariant-loop-named l = l.left + length (names_of_all (map named_view (take l.named-index l.streams))) ≡ l.limit
