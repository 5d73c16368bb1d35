use Rattle.std.proofs.Common.{ℕ, Vec, Global, ◌≡◌, ◌*◌, List, length, arith, ap, ◌∙◌, Result, Ok, Err}
use Rattle.pdb_base.specs.declared.error.Error.{Error}
use Rattle.pdb_base.specs.Answer.{Answers}
use Rattle.pdb_msf.specs.Source.{KeepsKind, State}
use Rattle.pdb_msf.specs.Header.{location_pages, directory_pages}
use Rattle.pdb_msf.specs.Pages.{page_numbers}
use Rattle.pdb_msf.proofs.PageLemmas.{page_size_bounds, pages_reach, pages_le}
use Rattle.pdb_msf.proofs.KindLemmas.{tells_numbers}
use Rattle.pdb_msf.proofs.directory.read_numbers.Goals as goal

pub read_scattered-requires-clause-reached : goal.read_scattered-requires-clause-reached
read_scattered-requires-clause-reached g c =
    let geometry = c.args.header.now.geometry in
    let size = page_size_bounds geometry.page_size c.requires.sized in
    let reach = pages_reach geometry.page_size (4 * directory_pages geometry) (omega arith) in
    let located : length c.deref.result.now ≡ location_pages geometry = ap length c.deref.ensures.value
    ∙ c.requires.located in
    rw (c.directory_pages-count.ensures.pages, located) reach

pub read_scattered-requires-clause-few : goal.read_scattered-requires-clause-few
read_scattered-requires-clause-few g c =
    let geometry = c.args.header.now.geometry in
    let size = page_size_bounds geometry.page_size c.requires.sized in
    let few = pages_le geometry.page_size (4 * directory_pages geometry) (omega arith) in
    let located : length c.deref.result.now ≡ location_pages geometry = ap length c.deref.ensures.value
    ∙ c.requires.located in
    omega (arith, located, few, c.directory_pages-count.ensures.pages, c.directory_pages-count.ensures.few)

numbers_tell : (state : State) (result : Result (Vec ℕ Global) Error) (pages_used count : ℕ) (words : List ℕ)
    → Answers (λ (v : Vec ℕ Global). v.items) result (page_numbers pages_used count words) → KeepsKind state result
numbers_tell state (Ok numbers) pages_used count words answers = tt
numbers_tell state (Err e) pages_used count words answers =
    tells_numbers state (λ (v : Vec ℕ Global). v.items) e pages_used count words answers

pub returns-clause-kind : goal.returns-clause-kind
returns-clause-kind g c =
    numbers_tell (g.S.Source.state c.read_scattered.new.self.source) _ _ _ _ c.page_numbers.ensures.numbers
