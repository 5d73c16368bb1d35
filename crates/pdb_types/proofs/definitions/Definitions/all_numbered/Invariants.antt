use Rattle.std.proofs.Common.{map}
use Rattle.pdb_types.specs.Declaration.{type_name}
use Rattle.pdb_types.proofs.DefinitionLemmas.{AreNamed}
use Rattle.pdb_types.proofs.definitions.Definitions.all_numbered.Given as goal

abbrev pub invariant-loop-candidate : goal.invariant-loop-candidate
invariant-loop-candidate l = AreNamed l.self (type_name l.name) l.first l.candidates l.candidate-index
    (map (λ index. index.0) l.found.items) l.next
