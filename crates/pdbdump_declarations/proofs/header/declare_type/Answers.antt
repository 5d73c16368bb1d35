use Rattle.std.proofs.Common.{refl}
use Rattle.pdbdump_types.proofs.lemmas.Shown.{kept}
use Rattle.pdbdump_declarations.proofs.header.declare_type.Goals as goal

pub returns-in-Ok : goal.returns-in-Ok
returns-in-Ok g c =
    kept c.args.progress.now.is_whole c.args.progress.now.is_whole c.args.err.now c.write.result refl
