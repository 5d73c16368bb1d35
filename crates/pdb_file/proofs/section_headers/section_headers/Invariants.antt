-- The headers so far, and those that are left, are all.
use Rattle.std.proofs.Common.{◌≡◌, ◌-◌, ◌*◌, ◌≤◌, ◌++◌, length, vec_len, vec_capacity}
use Rattle.pdb_base.specs.Place.{left}
use Rattle.pdb_base.specs.Records.{values_of_size}
use Rattle.pdb_space.specs.SectionHeader.{section_header}
use Rattle.pdb_file.proofs.section_headers.section_headers.Given as goal

abbrev pub invariant-loop : goal.invariant-loop
invariant-loop l = record {
  all : values_of_size 40 section_header l.fn.stream ≡ l.headers.items
      ++ values_of_size 40 section_header (left l.buffer);
  rest : length (left l.buffer) ≡ 40 * (l.count - l.counter);
  counted : vec_len l.headers ≡ l.counter;
  room : l.count ≤ vec_capacity l.headers;
}
