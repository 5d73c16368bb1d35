use Rattle.std.proofs.Common.{arith, sym, subst}
use Rattle.std.specs.Prelude.{IsTrue}
use Rattle.pdb_msf.proofs.lemmas.Kept.{kept_then}
use Rattle.pdb_validation.proofs.HeaderLemmas.{layout_long}
use Rattle.pdb_validation.proofs.PageLemmas.{layout_told}
use Rattle.pdb_validation.proofs.pages.check_pages.Goals as goal

pub of-requires-clause-header : goal.of-requires-clause-header
of-requires-clause-header g c fixed =
    let kept = kept_then _ _ _ c.in_ok-owners.ensures.kept c.in_ok-size.ensures.kept in
    let was = subst IsTrue kept.fixed fixed in
    let long = layout_long _ _ (c.requires.layout was) in
    rw kept.bytes (omega (arith, long))

pub returns : goal.returns
returns g c =
    let owned = c.in_ok-owners.ensures in
    let sized = kept_then _ _ _ owned.kept c.in_ok-size.ensures.kept in
    let opened = kept_then _ _ _ sized c.in_ok-free.ensures.reads.kept in
    record {
      answer = λ fixed.
          rw (c.requires.layout fixed)
          (layout_told _ _ _ _ _ _ _ _ _ _ _ _ _ _ _ c.page_size-page_size.ensures owned.kept.bytes
          (c.in_ok-size.ensures.answer (subst IsTrue (sym owned.kept.fixed) fixed)) c.div_ceil-count.ensures
          (owned.answer fixed) c.deref.ensures.value c.deref-2.ensures.value c.new-mismatches.ensures.items
          c.in_ok-add_shared.ensures opened.bytes c.in_ok-free.ensures.sized
          (c.in_ok-add_free.ensures.answer (subst IsTrue (sym opened.fixed) fixed)));
      kept = kept_then _ _ _ opened c.in_ok-add_free.ensures.kept;
    }
