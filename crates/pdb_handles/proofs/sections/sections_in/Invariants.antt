use Rattle.std.proofs.Common.{◌≡◌, map, take}
use Rattle.pdb_handles.specs.File.{section_info}
use Rattle.pdb_handles.proofs.sections.sections_in.Given as goal

abbrev pub invariant-loop-header : goal.invariant-loop-header
invariant-loop-header l = l.sections.items ≡ map section_info (take l.header-index l.headers)
