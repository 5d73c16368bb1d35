use Rattle.std.proofs.Common.{◌∙◌, sym}
use Rattle.pdb_base.specs.Place.{left}
use Rattle.pdb_base.proofs.lemmas.Refused.{passed_on}
use Rattle.pdb_records.specs.Counted.{count_bytes}
use Rattle.pdb_records.proofs.ListLemmas.{cause_is}
use Rattle.pdb_records.proofs.CountedLemmas.{number_is_no_want}
use Rattle.pdb_records.proofs.parse.counted.parse_counted.Goals as goal

pub returns-in_err-count-clause-memory : goal.returns-in_err-count-clause-memory
returns-in_err-count-clause-memory g c = λ want.
    absurd (number_is_no_want (count_bytes c.args.width) (left c.args.buffer.now) _ c.in_err-count.ensures
    (cause_is _ _ (sym (passed_on _ _ c.from_residual.ensures.1) ∙ want)))
