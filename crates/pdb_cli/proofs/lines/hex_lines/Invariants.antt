-- What was written is lines from the first on, and what is left begins where the next line does.
use Rattle.std.proofs.Common.{◌≡◌, ◌*◌, ◌≤◌, ℕ, drop, length}
use Rattle.std.specs.Int.{div_ceil}
use Rattle.pdb_cli.proofs.LineLemmas.{lines_to}
use Rattle.pdb_cli.proofs.lines.hex_lines.Given as goal

abbrev pub invariant-loop-bytes : goal.invariant-loop-bytes
invariant-loop-bytes l = record {
  size : l.bytes-iterator.size ≡ 32;
  lines : (n : ℕ) × (l.bytes-iterator.rest.now ≡ drop (32 * n) l.all) × (n ≤ div_ceil (length l.all) 32)
      × (l.out.items ≡ lines_to l.all n);
}
