use Rattle.std.proofs.Common.{◌≡◌, length, sym, ap, ◌∙◌, arith}
use Rattle.pdb_tpi.specs.declared.header.Header.{Header}
use Rattle.pdb_tpi.specs.Finder.{FinderState, first_of_block}
use Rattle.pdb_tpi.specs.Place.{IsPlace}
use Rattle.pdb_tpi.proofs.FinderLemmas.{room_for, places_push}
use Rattle.pdb_tpi.proofs.finder.ItemFinder.update.Goals as goal

pub push_reserved-requires : goal.push_reserved-requires
push_reserved-requires g c =
    let s = c.self.inside in
    let table : c.args.iterator.now.table ≡ s.table.now = c.requires
    ∙ sym (ap (λ (i : FinderState). i.table) c.self.view_is) in
    let place : IsPlace s.table.now c.place-index.result.0 c.place-index.result.1 =
    rw (← table, c.place-index.ensures.index) c.place-index.ensures.place in
    let least = ap (λ (h : Header). h.minimum_index) c.header-header.ensures.header in
    let most = ap (λ (h : Header). h.maximum_index) c.header-header.ensures.header in
    let first : c.place-index.result.0 ≡ first_of_block s.table.now (length s.positions.items) =
    omega (arith, least, c.if-index-first.true, c.len.ensures, s.positions.ok.0) in
    let room = room_for s.table.now (length s.positions.items) c.place-index.result.0 c.place-index.result.1 place first
    (omega (arith, most, c.if-index-header.true)) in
    let reserved = c.self.invariant.reserved in
    omega (arith, room, reserved, s.positions.ok.0)

pub invariant_of-self : goal.invariant_of-self
invariant_of-self g c =
    let s = c.self.inside in
    let table : c.args.iterator.now.table ≡ s.table.now = c.requires
    ∙ sym (ap (λ (i : FinderState). i.table) c.self.view_is) in
    let place : IsPlace s.table.now c.place-index.result.0 c.place-index.result.1 =
    rw (← table, c.place-index.ensures.index) c.place-index.ensures.place in
    let least = ap (λ (h : Header). h.minimum_index) c.header-header.ensures.header in
    let most = ap (λ (h : Header). h.maximum_index) c.header-header.ensures.header in
    let first : c.place-index.result.0 ≡ first_of_block s.table.now (length s.positions.items) =
    omega (arith, least, c.if-index-first.true, c.len.ensures, s.positions.ok.0) in
    rw (c.push_reserved.ensures.items, c.push_reserved.ensures.capacity)
    (places_push s.table.now s.positions.items _ c.place-index.result.0 c.place-index.result.1 c.self.invariant place
    first (omega (arith, most, c.if-index-header.true)))

pub returns-then-index-header-clause-few : goal.returns-then-index-header-clause-few
returns-then-index-header-clause-few g c = (invariant_of-self g c).few
