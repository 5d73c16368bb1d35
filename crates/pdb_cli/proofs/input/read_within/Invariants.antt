-- The block keeps its size, and what was read so far left the input.
use Rattle.std.proofs.Common.{◌≡◌, vec_len}
use Rattle.std.specs.Io.KnownBytes.{Consumes}
use Rattle.pdb_cli.proofs.input.read_within.Given as goal

abbrev pub invariant-loop : goal.invariant-loop
invariant-loop g l = record {
  room : vec_len l.block ≡ 65_536;
  read : Consumes (g.R.Read.remaining l.fn.input) (g.R.Read.remaining l.input) l.bytes.items;
}
