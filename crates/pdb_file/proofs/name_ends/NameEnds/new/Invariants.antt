use Rattle.std.proofs.Common.{◌≡◌, ◌*◌, ◌-◌, ◌≤◌, length, vec_capacity, vec_len}
use Rattle.pdb_file.specs.NameEnds.{AreFirstNuls, IsFirstNul}
use Rattle.pdb_file.proofs.name_ends.NameEnds.new.Given as goal

abbrev pub invariant-loop : goal.invariant-loop
invariant-loop l = record {
  so_far : AreFirstNuls l.names l.nuls.items;
  here : IsFirstNul l.names l.end l.nul;
  place : l.end ≡ length l.names - 512 * l.counter;
  counted : vec_len l.nuls ≡ l.counter;
  room : l.count ≤ vec_capacity l.nuls;
}
