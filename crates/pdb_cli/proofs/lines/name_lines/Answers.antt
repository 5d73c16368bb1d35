use Rattle.pdb_cli.proofs.LineLemmas.{name_lines_whole}
use Rattle.pdb_cli.proofs.lines.name_lines.Goals as goal

pub returns-clause-ok : goal.returns-clause-ok
returns-clause-ok c = rw c.into_bytes.ensures.value
    (name_lines_whole c.args.names.now c.loop-name.name-index c.loop-name.out.bytes.items c.loop-name-test.false
    c.loop-name.invariant)
