use Rattle.std.proofs.Common.{◌≡◌, [], drop}
use Rattle.pdb_validation.specs.Mismatch.{with_further}
use Rattle.pdb_validation.specs.Sections.{section_mismatches}
use Rattle.pdb_validation.proofs.sections.check_section_order.Given as goal

abbrev pub invariant-loop-place : goal.invariant-loop-place
invariant-loop-place l =
    with_further l.extent l.mismatches.items (section_mismatches l.stream l.least l.place (drop l.place l.sections))
    ≡ with_further l.extent [] (section_mismatches l.stream 0 0 l.sections)
