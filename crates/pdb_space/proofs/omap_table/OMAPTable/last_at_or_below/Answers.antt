use Rattle.std.proofs.Common.{◌≡◌, ◌-◌, ℕ, Some, ◌∙◌, ap, arith}
use Rattle.pdb_space.specs.Omap.{OmapValue, target_at}
use Rattle.pdb_space.proofs.SearchLemmas.{mapping_with, found_in, none_found, last_found, some_found}
use Rattle.pdb_space.proofs.omap_table.OMAPTable.last_at_or_below.Goals as goal

pub returns-in_err-last-clause-exact : goal.returns-in_err-last-clause-exact
returns-in_err-last-clause-exact c = λ sorted.
    let found = found_in c.bytes-bytes.result.now c.args.self.now c.args.address c.search-found.result.place
    c.search-found.result.source c.bytes-bytes.ensures.records c.search-found.ensures.found in
    let first = rw c.in_err-last.was at c.checked_sub.ensures in
    c.from_residual.ensures ∙ none_found c.args.self.now c.args.address c.search-found.result.place
    c.search-found.result.source found (omega (arith, first)) sorted

pub returns-clause-exact : goal.returns-clause-exact
returns-clause-exact c = λ sorted.
    let found = found_in c.bytes-bytes.result.now c.args.self.now c.args.address c.search-found.result.place
    c.search-found.result.source c.bytes-bytes.ensures.records c.search-found.ensures.found in
    let target : c.target_at.result ≡ target_at c.args.self.now (c.search-found.result.place - 1) =
    rw (← c.bytes-bytes.ensures.records, ← c.in_ok-last.ensures.1) c.target_at.ensures in
    let record_is = c.new.ensures ∙ ap (λ (t : ℕ). mapping_with c.search-found.result.source t) target in
    ap (λ (m : OmapValue). Some m) record_is
    ∙ last_found c.args.self.now c.args.address c.search-found.result.place c.search-found.result.source found
    (omega (arith, c.in_ok-last.ensures.0)) sorted

pub returns-clause-unsorted : goal.returns-clause-unsorted
returns-clause-unsorted c =
    let found = found_in c.bytes-bytes.result.now c.args.self.now c.args.address c.search-found.result.place
    c.search-found.result.source c.bytes-bytes.ensures.records c.search-found.ensures.found in
    let target : c.target_at.result ≡ target_at c.args.self.now (c.search-found.result.place - 1) =
    rw (← c.bytes-bytes.ensures.records, ← c.in_ok-last.ensures.1) c.target_at.ensures in
    let record_is = c.new.ensures ∙ ap (λ (t : ℕ). mapping_with c.search-found.result.source t) target in
    rw record_is (some_found c.args.self.now c.args.address c.search-found.result.place c.search-found.result.source
    found (omega (arith, c.in_ok-last.ensures.0)))
