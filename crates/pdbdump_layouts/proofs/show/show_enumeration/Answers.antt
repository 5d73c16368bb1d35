use Rattle.pdbdump_types.proofs.lemmas.Shown.{kept}
use Rattle.pdbdump_layouts.proofs.show.show_enumeration.Goals as goal

pub returns-in-Ok-Some : goal.returns-in-Ok-Some
returns-in-Ok-Some g c = kept c.args.progress.now.is_whole c.write_enumeration.new.progress.is_whole
    c.args.err.now c.write_enumeration.result c.write_enumeration.ensures
