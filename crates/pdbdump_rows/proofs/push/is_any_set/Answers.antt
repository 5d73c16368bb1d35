use Rattle.std.proofs.Common.{not, sym, ap}
use Rattle.pdbdump_rows.proofs.WordLemmas.{any_chosen}
use Rattle.pdbdump_rows.proofs.push.is_any_set.Goals as goal

pub returns-then-is_set : goal.returns-then-is_set
returns-then-is_set c =
    ap not (sym (any_chosen c.args.flags.now c.loop-is_set.is_set-index _ c.loop-is_set-test.true c.if-is_set.true))
