use Rattle.std.proofs.Common.{◌≡◌, drop, map, Ok, vec_len}
use Rattle.std.specs.List.{range_with_len}
use Rattle.pdb_base.specs.Place.{left}
use Rattle.pdb_base.specs.Answer.{values_of_all}
use Rattle.pdb_msf.specs.Pages.{words, page_number}
use Rattle.pdb_msf.proofs.header.Geometry.page_numbers.Given as goal

abbrev pub invariant-loop : goal.invariant-loop
invariant-loop l = record {
  rest : words (left l.buffer) ≡ drop l.counter (words (left l.fn.buffer));
  so_far : values_of_all (map (page_number l.self.pages_used (words (left l.fn.buffer))) (range_with_len 0 l.counter))
      ≡ Ok l.numbers.items;
  counted : vec_len l.numbers ≡ l.counter;
}
