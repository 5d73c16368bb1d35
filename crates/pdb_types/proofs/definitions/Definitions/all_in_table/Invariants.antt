use Rattle.std.proofs.Common.{◌≡◌, map}
use Rattle.pdb_types.specs.Declaration.{type_name}
use Rattle.pdb_types.proofs.DefinitionLemmas.{defined_among}
use Rattle.pdb_types.proofs.definitions.Definitions.all_in_table.Given as goal

abbrev pub invariant-loop-above : goal.invariant-loop-above
invariant-loop-above l = map (λ index. index.0) l.found.items ≡ defined_among l.self (type_name l.name) l.above
