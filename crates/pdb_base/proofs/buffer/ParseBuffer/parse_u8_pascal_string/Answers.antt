use Rattle.std.proofs.Common.{◌∙◌}
use Rattle.pdb_base.proofs.lemmas.Refused.{passed_on}
use Rattle.pdb_base.proofs.TextLemmas.{none_left, one_read}
use Rattle.pdb_base.proofs.buffer.ParseBuffer.parse_u8_pascal_string.Goals as goal

pub returns-in_err-len-clause-err : goal.returns-in_err-len-clause-err
returns-in_err-len-clause-err c = rw (passed_on _ _ c.from_residual.ensures.1)
    (c.in_err-len.ensures.err ∙ none_left c.args.self.now _ c.in_err-len.ensures.read)

pub returns-in_err-text-clause-err : goal.returns-in_err-text-clause-err
returns-in_err-text-clause-err c =
    rw (passed_on _ _ c.from_residual-in_err-text.ensures.1)
    (c.in_err-text.ensures.err ∙ one_read c.args.self.now c.parse_u8.new.self c.in_ok-len.len
    c.in_ok-len.ensures.place c.in_ok-len.ensures.read)
