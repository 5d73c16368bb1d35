use Rattle.std.proofs.Common.{refl}
use Rattle.pdb_cli.specs.Channels.{shown, refused, cut}
use Rattle.pdb_cli.proofs.channels.serve.Goals as goal

pub returns-in-Err : goal.returns-in-Err
returns-in-Err g c = refused c.in-Err.fault c.in-Err.ensures.refused refl c.tell.ensures

pub returns-in-Ok-show : goal.returns-in-Ok-show
returns-in-Ok-show g c = shown c.in-Ok.outcome c.in-Ok.ensures.shown c.in-Ok-show.ensures.ok

pub returns : goal.returns
returns g c = cut c.in-Ok.outcome c.in-Err-show.fault c.in-Ok.ensures.shown c.in-Err-show.ensures.cut
    (rw c.in-Err-show.ensures.err at c.tell-in-Err-show.ensures)
