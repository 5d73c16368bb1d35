use Rattle.std.proofs.Common.{arith}
use Rattle.pdb_handles.proofs.NamedLemmas.{too_long}
use Rattle.pdb_handles.proofs.stream_names.names_fit.Goals as goal

pub returns-in_default : goal.returns-in_default
returns-in_default c = rw (← c.as_slice-streams.ensures)
    (too_long c.as_slice-streams.result.now c.loop-named.named-index c.loop-named.left c.args.limit c.len.result _
    c.loop-named-test.true c.loop-named.invariant c.len.ensures (omega (arith, c.in_default.ensures)))
