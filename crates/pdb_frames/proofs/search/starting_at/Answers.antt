use Rattle.std.proofs.Common.{◌≡◌, true, false, sym, ◌∙◌, arith}
use Rattle.pdb_base.specs.Records.{values_of_size}
use Rattle.pdb_frames.proofs.SearchLemmas.{found_in, found_none, found_there}
use Rattle.pdb_frames.proofs.search.starting_at.Goals as goal

pub returns-in_default-clause-exact : goal.returns-in_default-clause-exact
returns-in_default-clause-exact g c = λ up.
    let size = g.R.FrameRecord.SIZE in
    let value = g.R.FrameRecord.value in
    let none : c.search-found.result.place ≡ 0 = omega (arith, c.in_default.ensures) in
    found_none g.R.AddrRange.span c.args.address (values_of_size size value c.args.bytes.now)
    c.search-found.result.start
    (rw none at (found_in g.R.AddrRange.span size value c.args.bytes.now c.args.address c.search-found.result.place
    c.search-found.result.start c.search-found.ensures)) up

pub returns-then-begins_at-clause-exact : goal.returns-then-begins_at-clause-exact
returns-then-begins_at-clause-exact g c = λ up.
    c.from_place.ensures
    ∙ found_there g.R.AddrRange.span g.R.FrameRecord.SIZE g.R.FrameRecord.value c.args.bytes.now c.args.address
    c.search-found.result.place c.in-Some.last c.search-found.result.start c.size-size.result true
    c.search-found.ensures (omega (arith, c.in-Some.ensures)) (rw (← c.record_at.ensures) c.size-size.ensures)
    (sym c.if-begins_at.true ∙ c.begins_at.ensures) up

pub returns-else-begins_at-clause-exact : goal.returns-else-begins_at-clause-exact
returns-else-begins_at-clause-exact g c = λ up.
    c.from_place-else-begins_at.ensures
    ∙ found_there g.R.AddrRange.span g.R.FrameRecord.SIZE g.R.FrameRecord.value c.args.bytes.now c.args.address
    c.search-found.result.place c.in-Some.last c.search-found.result.start c.size-size.result false
    c.search-found.ensures (omega (arith, c.in-Some.ensures)) (rw (← c.record_at.ensures) c.size-size.ensures)
    (sym c.if-begins_at.false ∙ c.begins_at.ensures) up
