use Rattle.std.proofs.Common.{◌≡◌, map}
use Rattle.pdb_validation.specs.Roles.{rises, sources_rise}
use Rattle.pdb_validation.proofs.roles.sources_rise.Given as goal

abbrev pub invariant-loop-record : goal.invariant-loop-record
invariant-loop-record l = rises 0 l.least (map (λ mapping. mapping.source) l.record-iterator) ≡ sources_rise l.table
