use Rattle.pdb_types.proofs.definitions.Definitions.+part_along.Given as goal

abbrev pub decreases-part_along : goal.decreases-part_along
decreases-part_along l = l.most
