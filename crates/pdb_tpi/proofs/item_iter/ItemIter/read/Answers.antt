use Rattle.std.proofs.Common.{ℕ, List, ap, sym, ◌∙◌}
use Rattle.pdb_base.specs.Count.{calls_of}
use Rattle.pdb_base.proofs.lemmas.Refused.{passed_on}
use Rattle.pdb_tpi.specs.Walk.{first_item}
use Rattle.pdb_tpi.proofs.FrontLemmas.{front_item}
use Rattle.pdb_tpi.proofs.WalkLemmas.{counted, place_end, place_next, read_next, read_fault, reads_behind}
use Rattle.pdb_tpi.proofs.item_iter.ItemIter.read.Goals as goal

pub returns-in_err-bytes-clause-item : goal.returns-in_err-bytes-clause-item
returns-in_err-bytes-clause-item g c =
    let s = c.self.inside in
    let fault = ap first_item (sym c.bytes_from.ensures) ∙ c.in_err-bytes.ensures.item in
    rw (passed_on _ _ c.from_residual.ensures.1, ← c.self.view_is)
    (read_fault s.table.now s.index s.position _ c.self.invariant fault)

pub returns-in_err-bytes-clause-counted : goal.returns-in_err-bytes-clause-counted
returns-in_err-bytes-clause-counted g c =
    let s = c.self.inside in
    let fault = ap first_item (sym c.bytes_from.ensures) ∙ c.in_err-bytes.ensures.item in
    rw (← c.self.view_is)
    (c.in_err-bytes.ensures.counted ∙ ap (λ (bytes : List ℕ). counted bytes
    (calls_of c.args.count.now)) c.bytes_from.ensures
    ∙ reads_behind s.table.now s.index s.position (calls_of c.args.count.now)
    (place_end s.table.now s.index s.position _ c.self.invariant fault))

pub invariant_of-result : goal.invariant_of-result
invariant_of-result g c =
    record { least = (front_item _ _ c.in_ok-bytes.ensures.item).kind }

pub invariant_of-self : goal.invariant_of-self
invariant_of-self g c =
    let s = c.self.inside in
    let whole = ap first_item (sym c.bytes_from.ensures) ∙ c.in_ok-bytes.ensures.item in
    (place_next s.table.now s.index s.position c.in_ok-bytes.bytes.now c.self.invariant whole c.in-Ok.ensures.0).next

pub returns-clause-item : goal.returns-clause-item
returns-clause-item g c =
    let s = c.self.inside in
    let whole = ap first_item (sym c.bytes_from.ensures) ∙ c.in_ok-bytes.ensures.item in
    rw (← c.self.view_is) (read_next s.table.now s.index s.position c.in_ok-bytes.bytes.now
    (place_next s.table.now s.index s.position c.in_ok-bytes.bytes.now c.self.invariant whole c.in-Ok.ensures.0))
