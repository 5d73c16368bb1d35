use Rattle.std.proofs.Common.{arith}
use Rattle.std.proofs.lemmas.List.{length-take-le}
use Rattle.pdb_validation.proofs.ModuleLemmas.{entry_fields}
use Rattle.pdb_validation.proofs.modules.module_at.Goals as goal

pub returns-clause-fields : goal.returns-clause-fields
returns-clause-fields c =
    let least = entry_fields c.args.bytes.now c.in_ok-size.size c.in_ok-size.ensures in
    let all = length-take-le c.in_ok-size.size c.args.bytes.now c.if-bytes-size.false in omega (arith, least, all)
