use Rattle.pdbdump_declarations.proofs.header.tell_cycle.Goals as goal

pub loop-index-init : goal.loop-index-init
loop-index-init g c = λ start was. was

pub loop-index-preserved : goal.loop-index-preserved
loop-index-preserved g c = λ start was.
    c.in_ok-tell_index.ensures.accounted start (c.loop-index.invariant start was)
