use Rattle.std.proofs.Common.{◌≡◌, ◌+◌, ◌*◌, ◌^◌, ◌≤◌, drop, map, vec_len, vec_capacity}
use Rattle.std.specs.List.{range_with_len}
use Rattle.pdb_base.specs.Place.{left}
use Rattle.pdb_msf.specs.Pages.{words}
use Rattle.pdb_msf.specs.Directory.{sizes_of, start_of}
use Rattle.pdb_msf.proofs.directory.starts_of.Given as goal

abbrev pub invariant-loop : goal.invariant-loop
invariant-loop l = record {
  rest : words (left l.buffer) ≡ drop l.counter (sizes_of l.directory);
  so_far : l.starts.items ≡ map (start_of l.geometry.page_size l.count l.directory) (range_with_len 0 l.counter);
  here : l.start ≡ start_of l.geometry.page_size l.count l.directory l.counter;
  few : l.start ≤ 2 ^ 35 + l.counter * 2 ^ 26;
  counted : vec_len l.starts ≡ l.counter;
  room : vec_capacity l.starts ≡ l.known;
}
