-- Past the last status no refusal is told.
use Rattle.std.proofs.Common.{ap, sym, arith, Option, None}
use Rattle.std.specs.Option.{option_map_or}
use Rattle.std.proofs.lemmas.Option.{slice_get_past}
use Rattle.pdb_handles.specs.Told.{RefusalByNumbers, tellings}
use Rattle.pdb_handles.proofs.told.candidate.Goals as goal

pub returns-then-status-gt28 : goal.returns-then-status-gt28
returns-then-status-gt28 c =
    sym (ap (λ (telling : Option RefusalByNumbers). option_map_or
    (λ tells. tells c.args.first c.args.second) telling None)
    (slice_get_past tellings c.args.status (omega (arith, c.if-status-gt28.true))))
