use Rattle.pdbdump_types.proofs.lemmas.Shown.{kept}
use Rattle.pdbdump_layouts.proofs.show.show_layout.Goals as goal

pub returns-in-Ok : goal.returns-in-Ok
returns-in-Ok g c = kept c.args.progress.now.is_whole c.write_layout.new.progress.is_whole
    c.args.err.now c.write_layout.result c.write_layout.ensures.whole
