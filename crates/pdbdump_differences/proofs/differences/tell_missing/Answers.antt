use Rattle.pdbdump_types.proofs.lemmas.Shown.{accounted_then}
use Rattle.pdbdump_differences.proofs.differences.tell_missing.Goals as goal

pub returns-clause-accounted : goal.returns-clause-accounted
returns-clause-accounted g c =
    accounted_then c.args.progress.now.is_whole c.tell.new.progress.is_whole c.tell-2.new.progress.is_whole
    c.args.err.now c.tell.new.err c.tell-2.new.err c.tell-2.result
    (λ start before. c.in_ok-tell.ensures.accounted start (c.in_ok-tell_unknown.ensures.accounted start before))
    c.tell-2.ensures.accounted
