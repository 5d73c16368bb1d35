use Rattle.std.proofs.Common.{◌≡◌, ℕ, length, inl, inr, ap, sym, ◌∙◌, arith, Ok}
use Rattle.pdb_msf.specs.Pages.{pages}
use Rattle.pdb_msf.specs.Directory.{PagesOfStream}
use Rattle.pdb_base.proofs.lemmas.Refused.{passed_on}
use Rattle.pdb_msf.proofs.PlaceLemmas.{entry_found, entry_refused, numbers_read}
use Rattle.pdb_msf.proofs.PageLemmas.{stream_few, stream_held}
use Rattle.pdb_msf.proofs.directory.Directory.entry.Goals as goal

pub returns-in_err-pages-clause-entry : goal.returns-in_err-pages-clause-entry
returns-in_err-pages-clause-entry c =
    let g = c.args.geometry in
    let d = c.args.self.now.bytes.items in
    let place = c.in_ok-place.place in
    rw (passed_on _ _ c.from_residual-in_err-pages.ensures.1)
    (elim c.in_err-pages.ensures.numbers [
      | inl bad ↦ inl (entry_refused g c.args.stream_number c.args.limit d place _ c.in_ok-place.ensures.place
          (numbers_read g place.size place.start _ d c.as_slice.result.now _ _ _ c.as_slice.ensures.value
          c.from-buffer.ensures c.seek.ensures c.pages-count.ensures.pages bad))
      | inr want ↦ inr want
    ])

pub returns-clause-entry : goal.returns-clause-entry
returns-clause-entry c =
    let g = c.args.geometry in
    let d = c.args.self.now.bytes.items in
    let place = c.in_ok-place.place in
    entry_found g c.args.stream_number c.args.limit d place c.in_ok-pages.pages.items c.in_ok-place.ensures.place
    (numbers_read g place.size place.start _ d c.as_slice.result.now _ _ _ c.as_slice.ensures.value
    c.from-buffer.ensures c.seek.ensures c.pages-count.ensures.pages c.in_ok-pages.ensures.numbers)
    ∙ ap (λ (size : ℕ). Ok (let entry : PagesOfStream = record {
      size = size;
      pages = c.in_ok-pages.pages.items;
    } in entry))
    (sym c.limit_size.ensures.size)

pub returns-clause-whole : goal.returns-clause-whole
returns-clause-whole c =
    let counted = c.in_ok-pages.ensures.count in
    let taken = c.pages-count.ensures.pages in
    let whole : length c.in_ok-pages.pages.items ≡ pages c.args.geometry.page_size c.in_ok-place.place.size =
    omega (arith, counted, taken, c.in_ok-pages.pages.ok.0) in
    let there = c.in_ok-place.ensures.there in
    record {
      reached = stream_held _ c.in_ok-place.place.size _ _ c.requires.sized whole c.limit_size.ensures.cut;
      short = let cut = c.limit_size.ensures.cut in omega (arith, cut, there);
      few = stream_few _ c.in_ok-place.place.size _ c.requires.sized whole there;
    }
