-- What the sections that are left give is what all give.
use Rattle.std.proofs.Common.{◌≡◌, ◌-◌}
use Rattle.pdb_base.specs.Place.{left}
use Rattle.pdb_space.specs.SectionHeader.{section_header_at}
use Rattle.pdb_file.specs.Image.{first_read, section_holds}
use Rattle.pdb_file.proofs.image.section_in.Given as goal

abbrev pub invariant-loop : goal.invariant-loop
invariant-loop l =
    first_read section_header_at (section_holds l.rva) (l.count - l.counter) (left l.buffer)
    ≡ first_read section_header_at (section_holds l.rva) l.count l.table
