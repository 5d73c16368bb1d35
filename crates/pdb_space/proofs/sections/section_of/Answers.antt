use Rattle.std.proofs.Common.{◌+◌, get_or, Some, sym, ap, ◌∙◌, arith}
use Rattle.pdb_space.specs.SectionPlace.{SectionPlace}
use Rattle.pdb_space.proofs.SectionLemmas.{blank, at-above, at-here, at-later, at-end, numbered, unnumbered}
use Rattle.pdb_space.proofs.sections.section_of.Goals as goal

pub returns-in_err-offset : goal.returns-in_err-offset
returns-in_err-offset c =
    c.from_residual.ensures
    ∙ sym (at-above (c.loop-place.place + 1) c.loop-place.place c.args.sections.now c.args.address
    (omega arith) c.in_err-offset.ensures)
    ∙ c.loop-place.invariant

pub returns-in_err-number : goal.returns-in_err-number
returns-in_err-number c =
    let index = c.loop-place.place in
    let here = get_or c.args.sections.now index blank in
    c.from_residual-in_err-number.ensures
    ∙ sym (unnumbered c.try_from.result (index + 1) here c.args.address c.in_err-number.ensures.value
    c.try_from.ensures)
    ∙ sym (at-here (index + 1) index c.args.sections.now c.args.address (omega arith) c.in_ok-offset.ensures.0
    (omega (arith, c.in_ok-offset.ensures.1)))
    ∙ c.loop-place.invariant

pub returns-then-offset-section : goal.returns-then-offset-section
returns-then-offset-section c =
    let index = c.loop-place.place in
    let here = get_or c.args.sections.now index blank in
    ap (λ (p : SectionPlace). Some p) (c.new.ensures
    ∙ ap (λ offset. record { section = c.in_ok-number.number; offset = offset }) c.in_ok-offset.ensures.1)
    ∙ sym (numbered c.try_from.result c.in_ok-number.number
    (index + 1) here c.args.address c.in_ok-number.ensures.value c.try_from.ensures)
    ∙ sym (at-here (index + 1) index c.args.sections.now c.args.address (omega arith) c.in_ok-offset.ensures.0
    (omega (arith, c.in_ok-offset.ensures.1)))
    ∙ c.loop-place.invariant

pub loop-place-preserved : goal.loop-place-preserved
loop-place-preserved c =
    let index = c.loop-place.place in
    sym (at-later (index + 1) index c.args.sections.now c.args.address (omega arith) c.in_ok-offset.ensures.0
    (omega (arith, c.in_ok-offset.ensures.1)))
    ∙ c.loop-place.invariant

pub returns : goal.returns
returns c =
    sym (at-end (c.loop-place.place + 1) c.loop-place.place c.args.sections.now c.args.address (omega arith))
    ∙ c.loop-place.invariant
