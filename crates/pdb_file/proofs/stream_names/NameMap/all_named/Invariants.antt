use Rattle.std.proofs.Common.{◌≡◌, ◌≤◌, map, vec_len, vec_capacity, Ok}
use Rattle.std.specs.List.{range_with_len}
use Rattle.pdb_base.specs.Answer.{values_of_all}
use Rattle.pdb_file.specs.StreamNames.{map_view, named_at, named_view}
use Rattle.pdb_file.proofs.stream_names.NameMap.all_named.Given as goal

abbrev pub invariant-loop-place : goal.invariant-loop-place
invariant-loop-place l = record {
  so_far : values_of_all (map (named_at (map_view l.self)) (range_with_len 0 l.place))
      ≡ Ok (map named_view l.names.items);
  counted : vec_len l.names ≡ l.place;
  room : l.count ≤ vec_capacity l.names;
}
