use Rattle.std.proofs.Common.{◌≡◌, Ok}
use Rattle.pdb_container.specs.Header.{file_head}
use Rattle.pdb_examples.specs.Uses.{sizes_by_number}
use Rattle.pdb_examples.proofs.streams.stream_sizes.Given as goal

abbrev pub invariant-loop-number : goal.invariant-loop-number
invariant-loop-number l = record {
  head : file_head l.initial.file.source.items ≡ Ok l.file.head;
  same : l.file.source.items ≡ l.initial.file.source.items;
  so_far : l.sizes.items ≡ sizes_by_number l.number l.file.source.items l.file.head;
}
