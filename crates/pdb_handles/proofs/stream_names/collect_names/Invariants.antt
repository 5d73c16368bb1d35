use Rattle.std.proofs.Common.{◌≡◌, map, take}
use Rattle.pdb_file.specs.StreamNames.{Named, named_view}
use Rattle.pdb_handles.specs.{Listing.ended_names, Listing.placed_rows, StreamNames.named_row}
use Rattle.pdb_handles.proofs.stream_names.collect_names.Given as goal

abbrev pub invariant-loop-named : goal.invariant-loop-named
invariant-loop-named l =
    (l.rows.items ≡ placed_rows named_row (λ (named : Named). named.name) 0
    (map named_view (take l.named-index l.streams)))
    × (l.names.items ≡ ended_names (λ (named : Named). named.name) (map named_view (take l.named-index l.streams)))
