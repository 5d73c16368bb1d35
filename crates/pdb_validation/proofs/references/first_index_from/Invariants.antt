use Rattle.std.proofs.Common.{◌≡◌, drop, map, Some}
use Rattle.pdb_validation.specs.References.{first_from}
use Rattle.pdb_validation.proofs.references.first_index_from.Given as goal

abbrev pub invariant-loop-index : goal.invariant-loop-index
invariant-loop-index g l =
    first_from l.least (map (λ index. Some (g.I.ItemIndex.number index)) (drop l.index-index l.indexes))
    ≡ first_from l.least (map (λ index. Some (g.I.ItemIndex.number index)) l.indexes)
