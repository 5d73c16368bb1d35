use Rattle.std.proofs.Common.{sym, subst, Bool}
use Rattle.pdbdump_types.proofs.lemmas.Shown.{accounted_then}
use Rattle.pdbdump_types.specs.Shown.{Accounts}
use Rattle.pdbdump_layouts.proofs.show.limit_types.Goals as goal

pub returns-clause-accounted : goal.returns-clause-accounted
returns-clause-accounted g c =
    accounted_then c.args.progress.now.is_whole c.allowed_count.new.progress.is_whole
    c.tell_index.new.progress.is_whole c.args.err.now c.args.err.now c.tell_index.new.err c.tell_index.result
    (λ start before. subst (λ (whole : Bool). Accounts start c.args.err.now whole)
    (sym c.allowed_count.ensures.whole) before)
    c.tell_index.ensures.accounted
