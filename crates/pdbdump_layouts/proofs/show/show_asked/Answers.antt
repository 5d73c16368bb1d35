use Rattle.pdbdump_types.proofs.lemmas.Shown.{accounted_then}
use Rattle.pdbdump_layouts.proofs.show.show_asked.Goals as goal

pub returns : goal.returns
returns g c =
    accounted_then c.args.progress.now.is_whole c.tell_unread.new.progress.is_whole c.tell_depth.new.progress.is_whole
    c.args.err.now c.tell_unread.new.err c.tell_depth.new.err c.tell_depth.result
    (λ start before. c.in_ok-tell_unread.ensures start (c.in_ok-show_types.ensures start
    (c.in_ok-limit_types.ensures.accounted start (c.in_ok-find_names.ensures start before))))
    c.tell_depth.ensures.accounted
