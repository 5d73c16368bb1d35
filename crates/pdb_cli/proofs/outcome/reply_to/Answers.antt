use Rattle.std.proofs.Common.{refl}
use Rattle.pdb_container.proofs.lemmas.Replies.{one_reply, no_reply}
use Rattle.pdb_cli.proofs.outcome.reply_to.Goals as goal

pub returns-in-Some : goal.returns-in-Some
returns-in-Some c =
    one_reply c.args.file.items c.args.query c.in-Ok.replies _ c.in-Some.reply (c.in-Ok.ensures refl)
    c.in-Some.ensures.items

pub returns-in-Err : goal.returns-in-Err
returns-in-Err c = no_reply c.args.file.items c.args.query c.in-Err.error (c.in-Err.ensures refl)
