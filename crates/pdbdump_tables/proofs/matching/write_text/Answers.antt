use Rattle.std.proofs.Common.{[], refl}
use Rattle.pdb_base.proofs.lemmas.Refused.{passed_on}
use Rattle.pdb_output.proofs.lemmas.Written.{lacks_all}
use Rattle.pdbdump_tables.proofs.matching.write_text.Goals as goal

pub returns-in_err-line : goal.returns-in_err-line
returns-in_err-line g c =
    rw (passed_on _ _ c.from_residual.ensures.1) (record { text = []; holds = tt; written = lacks_all _ [] _ refl })

pub returns : goal.returns
returns g c = record { text = c.deref.result.now; holds = tt; written = c.write.ensures.bytes }
