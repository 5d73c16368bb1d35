use Rattle.pdb_tpi.proofs.LookUpLemmas.{few_found}
use Rattle.pdb_tpi.proofs.fields.ItemFinder+TypeIndex.fields_counted.Goals as goal

pub returns-clause-few : goal.returns-clause-few
returns-clause-few c = few_found _ _ _ c.args.index.0 _ _ c.join_fields.ensures.few
