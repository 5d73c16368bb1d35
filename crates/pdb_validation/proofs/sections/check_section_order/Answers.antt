use Rattle.std.proofs.lemmas.List.{at_drop_all}
use Rattle.pdb_validation.specs.Sections.{section_mismatches}
use Rattle.pdb_validation.proofs.MismatchLemmas.{asked_end}
use Rattle.pdb_validation.proofs.sections.check_section_order.Goals as goal

pub returns : goal.returns
returns c =
    asked_end _ _ _ (section_mismatches c.args.stream 0 0 c.args.sections.now) c.loop-place.invariant
    (at_drop_all (section_mismatches c.args.stream c.loop-place.least c.loop-place.place) c.args.sections.now _
    c.loop-place-test.false)
