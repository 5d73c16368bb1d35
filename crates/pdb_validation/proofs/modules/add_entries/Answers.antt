use Rattle.std.proofs.Common.{sym, ◌∙◌, arith}
use Rattle.pdb_validation.proofs.ModuleLemmas.{adding_entry, entry_joined, some_bytes}
use Rattle.pdb_validation.proofs.modules.add_entries.Goals as goal

pub loop-index-preserved : goal.loop-index-preserved
loop-index-preserved c =
    let joined = entry_joined c.loop-index.left.now (c.in-Ok.entry.now, c.in-Ok.behind.now) c.in-Ok.ensures.entry in
    record {
      place = omega (arith, joined, c.loop-index.invariant.place);
      all = adding_entry c.args.extent c.args.layout.now _ _ _ _ (c.in-Ok.entry.now, c.in-Ok.behind.now) _ _ _ _
          c.loop-index.invariant.all c.loop-index-test.true
          (some_bytes c.loop-index.left.now (sym c.is_empty.ensures ∙ c.if-is_empty.false)) c.in-Ok.ensures.entry
          c.entry_inconsistency.ensures c.in_ok-add_at-in-Ok.ensures;
    }
