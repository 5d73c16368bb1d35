use Rattle.pdb_types.proofs.definitions.Definitions.along_shortcut.Goals as goal

pub returns : goal.returns
returns c = c.end_of.ensures _ (rw c.shortcuts.ensures c.index.ensures.shortcuts)
