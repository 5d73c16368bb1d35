use Rattle.pdbdump_types.proofs.lemmas.Shown.{accounted_then}
use Rattle.pdbdump_declarations.proofs.header.declare_asked.Goals as goal

pub returns-in-Ordered : goal.returns-in-Ordered
returns-in-Ordered g c =
    accounted_then c.args.progress.now.is_whole c.limit_types.new.progress.is_whole
    c.declare_ordered.new.progress.is_whole c.args.err.now c.limit_types.new.err c.declare_ordered.new.err
    c.declare_ordered.result
    (λ start before. c.in_ok-limit_types.ensures.accounted start (c.in_ok-tell_unread.ensures start
    (c.in_ok-find_names.ensures start before)))
    c.declare_ordered.ensures

pub returns : goal.returns
returns g c =
    accounted_then c.args.progress.now.is_whole c.limit_types.new.progress.is_whole
    c.tell_cycle.new.progress.is_whole c.args.err.now c.limit_types.new.err c.tell_cycle.new.err
    c.tell_cycle.result
    (λ start before. c.in_ok-limit_types.ensures.accounted start (c.in_ok-tell_unread.ensures start
    (c.in_ok-find_names.ensures start before)))
    c.tell_cycle.ensures
