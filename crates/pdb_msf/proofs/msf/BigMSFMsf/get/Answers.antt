use Rattle.std.proofs.Common.{◌≡◌, ap, sym, subst, ◌∙◌, arith, List, ℕ}
use Rattle.std.specs.Prelude.{IsTrue}
use Rattle.pdb_base.proofs.lemmas.Refused.{passed_on}
use Rattle.pdb_msf.specs.Directory.{entry_view}
use Rattle.pdb_msf.specs.Header.{header_view}
use Rattle.pdb_msf.specs.Source.{IsFixed}
use Rattle.pdb_msf.specs.File.{IsKeptOf}
use Rattle.pdb_msf.proofs.KindLemmas.{tells_entry}
use Rattle.pdb_msf.proofs.AskedLemmas.{asks_stopped, asks_refused, wanted_is}
use Rattle.pdb_msf.proofs.msf.BigMSFMsf.get.Goals as goal

pub returns-in_err-entry-clause-kind : goal.returns-in_err-entry-clause-kind
returns-in_err-entry-clause-kind g c =
    rw (passed_on _ _ c.from_residual-in_err-entry.ensures.1)
    (tells_entry (g.S.Source.state c.locate.new.self.source) entry_view c.in_err-entry.field-0.0 _ _ _ _
    c.in_err-entry.ensures.entry)

pub returns-in_err-entry-clause-asked : goal.returns-in_err-entry-clause-asked
returns-in_err-entry-clause-asked g c fixed =
    rw (passed_on _ _ c.from_residual-in_err-entry.ensures.1)
    (asks_stopped (List ℕ) _ _ _ _ c.in_err-entry.field-0.0 c.in_ok-locate.ensures.fits c.in_ok-locate.ensures.asked)

pub returns-in_err-bytes-clause-asked : goal.returns-in_err-bytes-clause-asked
returns-in_err-bytes-clause-asked g c fixed =
    let inside = c.self.inside in
    let kept : IsKeptOf (g.S.Source.state inside.source.source) (header_view inside.header) c.in-Some.directory =
    rw c.in-Some.is at c.self.invariant.kept in
    let file : (g.S.Source.state inside.source.source).bytes ≡ (g.S.Source.state c.args.self.now.source).bytes =
    ap (λ m. (g.S.Source.state m.source).bytes) c.self.view_is ∙ c.in_ok-locate.ensures.source.bytes in
    let head : header_view inside.header ≡ c.args.self.now.head = ap (λ m. m.head) c.self.view_is
    ∙ c.in_ok-locate.ensures.head in
    let still : IsFixed (g.S.Source.state inside.source.source) =
    subst IsTrue (sym (ap (λ m. (g.S.Source.state m.source).is_fixed) c.self.view_is
    ∙ c.in_ok-locate.ensures.source.fixed)) fixed in
    let wants = wanted_is _ _ _ _ c.args.stream_number c.args.limit c.in-Some.directory.bytes.items
    (entry_view c.in_ok-entry.entry) file head (kept.bytes still) c.in_ok-entry.ensures.entry in
    let whole = sym wants in
    let middle : inside.source.asked ≡ _ = ap (λ m. m.asked) c.self.view_is ∙ c.in_ok-locate.ensures.asked in
    rw (passed_on _ _ c.from_residual-in_err-bytes.ensures.1)
    (asks_refused (List ℕ) _ inside.source.asked _ _ _ c.in_err-bytes.field-0.0 c.in_ok-locate.ensures.fits middle
    (c.in_err-bytes.ensures.asked.0, omega (arith, whole, c.in_err-bytes.ensures.asked.1)))
