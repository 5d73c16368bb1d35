use Rattle.pdb_types.proofs.OrderLaws.{acyclic, complete}
use Rattle.pdb_types.proofs.laws.declaration_orders.Goals as goal

pub returns-clause-complete : goal.returns-clause-complete
returns-clause-complete c = complete

pub returns-clause-acyclic : goal.returns-clause-acyclic
returns-clause-acyclic c = acyclic
