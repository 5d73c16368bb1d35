use Rattle.std.proofs.Common.{refl}
use Rattle.pdbdump_types.proofs.lemmas.Shown.{kept}
use Rattle.pdbdump_layouts.proofs.show.find_name.Goals as goal

pub returns-in-Ok-Member : goal.returns-in-Ok-Member
returns-in-Ok-Member g c =
    kept c.args.progress.now.is_whole c.args.progress.now.is_whole c.args.err.now c.write.result refl
