use Rattle.pdb_base.proofs.lemmas.Refused.{passed_on}
use Rattle.pdb_msf.proofs.KindLemmas.{tells_place}
use Rattle.pdb_msf.proofs.msf.BigMSF.stream_size.Goals as goal

pub returns-in_err-place-clause-kind : goal.returns-in_err-place-clause-kind
returns-in_err-place-clause-kind g c =
    rw (passed_on _ _ c.from_residual-in_err-place.ensures.1)
    (tells_place (g.S.Source.state c.locate.new.self.source) c.in_err-place.field-0.0 _ _ _
    c.in_err-place.ensures.place)
