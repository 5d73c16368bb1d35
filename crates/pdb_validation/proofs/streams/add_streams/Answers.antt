use Rattle.std.proofs.Common.{refl, ap, sym, subst}
use Rattle.std.specs.Prelude.{IsTrue}
use Rattle.pdb_msf.proofs.lemmas.Kept.{kept_here, kept_then}
use Rattle.pdb_validation.proofs.StreamLemmas.{faults_next, from_first, none_left}
use Rattle.pdb_validation.proofs.ToldLemmas.{said, telling_enough, telling_more, telling_none}
use Rattle.pdb_validation.proofs.streams.add_streams.Goals as goal

pub loop-number-init : goal.loop-number-init
loop-number-init g c =
    let old = g.S.Source.state c.args.source.now.source in
    record {
      kept = kept_here old;
      told = λ fixed. rw (from_first c.args.scope.now.layout.now old.bytes c.args.count) refl;
    }

pub returns-then-branch : goal.returns-then-branch
returns-then-branch g c =
    let old = g.S.Source.state c.args.source.now.source in
    let before = c.loop-number.invariant in
    let next = c.in_ok-found.ensures in
    record {
      answer = λ fixed.
          let still = subst IsTrue (sym before.kept.fixed) fixed in
          telling_enough _ _ _ _ _ _ _ _ _ _ (before.told fixed)
          (faults_next c.args.scope.now.layout.now old.bytes c.args.count c.loop-number.number c.loop-number-test.true)
          (rw before.kept.bytes at next.answer still) c.in_ok-add_until.ensures.added c.in_ok-add_until.ensures.last
          c.if-branch.true;
      kept = kept_then _ _ _ before.kept next.kept;
    }

pub loop-number-preserved : goal.loop-number-preserved
loop-number-preserved g c =
    let old = g.S.Source.state c.args.source.now.source in
    let before = c.loop-number.invariant in
    let next = c.in_ok-found.ensures in
    record {
      kept = kept_then _ _ _ before.kept next.kept;
      told = λ fixed.
          let still = subst IsTrue (sym before.kept.fixed) fixed in
          telling_more _ _ _ _ _ _ _ _ _ _ (before.told fixed)
          (faults_next c.args.scope.now.layout.now old.bytes c.args.count c.loop-number.number c.loop-number-test.true)
          (rw before.kept.bytes at next.answer still) c.in_ok-add_until.ensures.added c.in_ok-add_until.ensures.last
          c.if-branch.false;
    }

pub returns : goal.returns
returns g c =
    let old = g.S.Source.state c.args.source.now.source in
    let before = c.loop-number.invariant in
    record {
      answer = λ fixed.
          ap said (telling_none _ _ _ _ _ (before.told fixed)
          (none_left c.args.scope.now.layout.now old.bytes c.args.count c.loop-number.number c.loop-number-test.false));
      kept = before.kept;
    }
