use Rattle.pdb_tpi.proofs.LookUpLemmas.{few_chained}
use Rattle.pdb_tpi.proofs.fields.OpenTable+TypeIndex.fields_counted.Goals as goal

pub returns-clause-few : goal.returns-clause-few
returns-clause-few c learned = few_chained _ _ c.args.index.0 _ _ learned c.join_fields.ensures.few
