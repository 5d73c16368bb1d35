use Rattle.pdb_msf.proofs.scattered.view.Goals as goal

pub returns-in-Err-clause-kind : goal.returns-in-Err-clause-kind
returns-in-Err-clause-kind g c =
    c.source_error.ensures.kind (g.S.Source.state c.view.new.self) c.in-Err.ensures.kind
