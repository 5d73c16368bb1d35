use Rattle.pdb_base.specs.Place.{left}
use Rattle.pdb_base.proofs.lemmas.Refused.{passed_on}
use Rattle.pdb_records.proofs.CountedLemmas.{cut_arguments, skipped_arguments}
use Rattle.pdb_records.proofs.parse.skip.skip_arguments.Goals as goal

pub returns-in_err-take : goal.returns-in_err-take
returns-in_err-take c = rw (passed_on _ _ c.from_residual-in_err-take.ensures.1)
    (cut_arguments (left c.args.buffer.now) _ _ _ c.in_ok-count.ensures.read c.in_err-take.ensures.read)

pub returns : goal.returns
returns c = skipped_arguments (left c.args.buffer.now) _ _ _ _ c.in_ok-count.ensures.read c.in_ok-take.ensures.read
