use Rattle.pdb_values.proofs.lemmas.Fields.{field_there}
use Rattle.pdb_values.proofs.type_data.+copy.Goals as goal

pub copy_fields-returns-in_err-copies-clause-memory : goal.copy_fields-returns-in_err-copies-clause-memory
copy_fields-returns-in_err-copies-clause-memory t c = λ want. field_there c.args.fields.now c.if-is_empty.ensures

pub copy_fields-returns-in_err-push-clause-memory : goal.copy_fields-returns-in_err-push-clause-memory
copy_fields-returns-in_err-push-clause-memory t c = λ want. field_there c.args.fields.now c.if-is_empty.ensures
