use Rattle.std.proofs.Common.{◌∙◌, sym}
use Rattle.bstr.proofs.lemmas.EncodeLemmas.{lossy_chars-utf8}
use Rattle.pdb_base.proofs.raw_string.RawString.to_string.Goals as goal

pub returns-in-Ok-clause-text : goal.returns-in-Ok-clause-text
returns-in-Ok-clause-text c = c.in-Ok.ensures.cases.0 ∙ sym (lossy_chars-utf8 _ c.in-Ok.ensures.cases.1)
