use Rattle.std.proofs.Common.{◌≡◌, ◌-◌, length}
use Rattle.pdb_tpi.specs.Walk.{rest}
use Rattle.pdb_validation.proofs.symbols.behind_symbols.Given as goal

abbrev pub invariant-loop-step : goal.invariant-loop-step
invariant-loop-step l = rest (length l.stream - l._step) l.left ≡ rest (length l.stream) l.stream
