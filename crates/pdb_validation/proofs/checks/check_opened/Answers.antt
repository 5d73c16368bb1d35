use Rattle.std.proofs.Common.{arith, sym, subst}
use Rattle.std.specs.Prelude.{IsTrue}
use Rattle.pdb_msf.proofs.lemmas.Kept.{kept_then}
use Rattle.pdb_validation.proofs.OpenedLemmas.{fails_more, opened_past, opened_within, read_before}
use Rattle.pdb_validation.proofs.checks.check_opened.Goals as goal

pub returns-then-branch : goal.returns-then-branch
returns-then-branch g c =
    let sized = c.in_ok-size.ensures in
    record {
      answer = λ fixed.
          rw (opened_past c.args.extent _ c.args.header c.in_ok-size.field-0 (c.requires.head fixed)
          (sized.answer fixed) (let past = c.if-branch.true in omega arith))
          (read_before _ _ _ _ c.only.ensures);
      kept = sized.kept;
    }

pub returns : goal.returns
returns g c =
    let sized = c.in_ok-size.ensures in
    let first = sized.kept.counts in
    record {
      answer = λ fixed.
          let further = c.check_directory.ensures.answer (subst IsTrue (sym sized.kept.fixed) fixed) in
          rw (opened_within c.args.extent _ c.args.header c.in_ok-size.field-0 (c.requires.head fixed)
          (sized.answer fixed) (let within = c.if-branch.false in omega arith))
          (rw (← sized.kept.bytes) (fails_more _ _ _ _ _ (λ failed. omega (arith, first, failed)) further));
      kept = kept_then _ _ _ sized.kept c.check_directory.ensures.kept;
    }
