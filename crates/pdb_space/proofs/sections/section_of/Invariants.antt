use Rattle.std.proofs.Common.{◌≡◌, ◌+◌, drop}
use Rattle.pdb_space.specs.Sections.{section_from, section_of}
use Rattle.pdb_space.proofs.sections.section_of.Given as goal

abbrev pub invariant-loop-place : goal.invariant-loop-place
invariant-loop-place l = section_from (l.place + 1) (drop l.place l.sections) l.address
    ≡ section_of l.sections l.address
