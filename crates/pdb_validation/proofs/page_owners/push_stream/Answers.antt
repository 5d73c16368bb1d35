use Rattle.std.proofs.Common.{refl}
use Rattle.std.proofs.lemmas.List.{append-nil}
use Rattle.pdb_validation.proofs.OwnerLemmas.{no_owners}
use Rattle.pdb_validation.proofs.page_owners.push_stream.Goals as goal

pub returns-in-Err : goal.returns-in-Err
returns-in-Err c =
    let none = no_owners c.args.layout.now c.args.number _ c.in-Err.ensures in
    rw (none, append-nil) refl
