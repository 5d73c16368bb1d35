use Rattle.pdb_types.specs.Declaration.{type_name}
use Rattle.pdb_types.proofs.DefinitionLemmas.{NoneBefore}
use Rattle.pdb_types.proofs.definitions.Definitions.first_numbered.Given as goal

abbrev pub invariant-loop-candidate : goal.invariant-loop-candidate
invariant-loop-candidate l = NoneBefore l.self (type_name l.name) l.first l.candidates l.candidate-index
