use Rattle.pdb_container.proofs.RunLemmas.{opened_replies}
use Rattle.pdb_container.proofs.queries.run.Goals as goal

pub returns : goal.returns
returns g c fixed =
    let state = g.S.Source.state in (
      c.in_ok-file.file.head,
      c.in_ok-file.ensures.head fixed,
      opened_replies (state c.args.source) (state c.in_ok-file.file.source) _ _ _ c.in_ok-file.ensures.kept
          c.answer_all.ensures fixed,
    )
