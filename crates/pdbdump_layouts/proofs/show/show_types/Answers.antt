use Rattle.pdbdump_layouts.proofs.show.show_types.Goals as goal

pub loop-index-init : goal.loop-index-init
loop-index-init g c = λ start was. was

pub loop-index-preserved : goal.loop-index-preserved
loop-index-preserved g c = λ start was.
    c.in_ok-show_type.ensures start (c.loop-index.invariant start was)
