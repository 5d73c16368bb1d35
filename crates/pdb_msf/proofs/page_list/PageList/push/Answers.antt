use Rattle.std.proofs.Common.{ap, ◌∙◌, arith}
use Rattle.pdb_msf.specs.Source.{positions}
use Rattle.pdb_msf.specs.PageList.{page_slice}
use Rattle.pdb_msf.proofs.SliceLemmas.{length-positions_with, positions_with}
use Rattle.pdb_msf.proofs.page_list.PageList.push.Goals as goal

pub invariant_of-self-2 : goal.invariant_of-self-2
invariant_of-self-2 c =
    let inside = c.self.inside in
    let added = c.in_ok-add_slice.ensures.slices in (
      rw added (omega (
        arith,
        length-positions_with inside.slices.items (page_slice inside.page_size c.args.page),
        c.self.invariant.0,
      )),
      c.self.invariant.1,
    )

pub returns-clause-positions : goal.returns-clause-positions
returns-clause-positions c =
    let inside = c.self.inside in
    rw (← c.self.view_is) (ap positions c.in_ok-add_slice.ensures.slices
    ∙ positions_with inside.slices.items (page_slice inside.page_size c.args.page))
