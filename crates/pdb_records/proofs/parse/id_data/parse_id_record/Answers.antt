use Rattle.std.proofs.Common.{◌∙◌, sym}
use Rattle.pdb_base.specs.Place.{left}
use Rattle.pdb_base.proofs.lemmas.Refused.{passed_on}
use Rattle.pdb_records.proofs.ListLemmas.{cause_is}
use Rattle.pdb_records.proofs.CountedLemmas.{number_is_no_want}
use Rattle.pdb_records.proofs.parse.id_data.parse_id_record.Goals as goal

pub returns-in_err-number-clause-memory : goal.returns-in_err-number-clause-memory
returns-in_err-number-clause-memory c = λ want.
    absurd (number_is_no_want 2 (left c.args.buffer.now) _ c.in_err-number.ensures.read
    (cause_is _ _ (sym (passed_on _ _ c.from_residual.ensures.1) ∙ want)))
