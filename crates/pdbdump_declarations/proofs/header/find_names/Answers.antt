use Rattle.pdbdump_declarations.proofs.header.find_names.Goals as goal

pub loop-name-init : goal.loop-name-init
loop-name-init g c = λ start was. was

pub loop-name-preserved : goal.loop-name-preserved
loop-name-preserved g c = λ start was.
    c.in_ok-find_name.ensures start (c.loop-name.invariant start was)
