use Rattle.std.proofs.Common.{◌+◌, ◌<◌, ◌∙◌, ap, arith, length}
use Rattle.pdb_base.proofs.lemmas.Collected.{ok, ok_is}
use Rattle.pdb_types.proofs.AgreementLemmas.{at_end, ended, overfull, step_differs, step_same, step_within}
use Rattle.pdb_types.proofs.agreement.Tables.agree_along.Goals as goal

pub loop-place-preserved : goal.loop-place-preserved
loop-place-preserved c =
    let within : c.loop-place.place < length c.loop-place.pairs.items =
    omega (arith, c.loop-place.pairs.ok.0, c.len.ensures, c.if-place-len.false) in
    let is = ok_is _ _ c.in_ok-push_within.ensures in
    record {
      same = step_same _ _ c.args.most c.loop-place.place c.loop-place.pairs.items _ c.loop-place.invariant.same
          c.push_within.new.pairs.items c.index-pair.result.now c.in_ok-push_within.field-0 within
          c.loop-place-test.true c.index-pair.ensures is c.if-not-branch.false;
      within = step_within _ _ c.loop-place.place c.loop-place.pairs.items c.push_within.new.pairs.items
          c.index-pair.result.now c.in_ok-push_within.field-0 within is c.if-not-branch.false;
    }

pub returns-then-place-len : goal.returns-then-place-len
returns-then-place-len c =
    ap ok (at_end _ _ c.args.most c.loop-place.place c.loop-place.pairs.items _ c.loop-place.invariant.same
    (omega (arith, c.loop-place.pairs.ok.0, c.len.ensures, c.if-place-len.true)))

pub returns-then-not-branch : goal.returns-then-not-branch
returns-then-not-branch c =
    let within : c.loop-place.place < length c.loop-place.pairs.items =
    omega (arith, c.loop-place.pairs.ok.0, c.len.ensures, c.if-place-len.false) in
    ap ok (step_differs _ _ c.args.most c.loop-place.place c.loop-place.pairs.items _ c.loop-place.invariant.same
    c.push_within.new.pairs.items c.index-pair.result.now c.in_ok-push_within.field-0 within c.loop-place-test.true
    c.index-pair.ensures (ok_is _ _ c.in_ok-push_within.ensures) c.if-not-branch.true)

pub returns-then-len-most : goal.returns-then-len-most
returns-then-len-most c =
    let within : c.loop-place.place < length c.loop-place.pairs.items =
    omega (arith, c.loop-place.pairs.ok.0, c.len.ensures, c.if-place-len.false) in
    let next = c.loop-place-test.true in
    ap ok (overfull _ _ c.args.most (c.loop-place.place + 1) c.push_within.new.pairs.items _
    (step_same _ _ c.args.most c.loop-place.place c.loop-place.pairs.items _ c.loop-place.invariant.same
    c.push_within.new.pairs.items c.index-pair.result.now c.in_ok-push_within.field-0 within next
    c.index-pair.ensures (ok_is _ _ c.in_ok-push_within.ensures) c.if-not-branch.false) (omega (arith, next))
    (omega (arith, c.push_within.new.pairs.ok.0, c.len-in-loop-place.ensures, c.if-len-most.true)))

pub returns : goal.returns
returns c =
    ap ok (ended _ _ c.args.most c.loop-place.place c.loop-place.pairs.items _ c.loop-place.invariant.same
    c.len-2.result c.loop-place-test.false (omega arith) (c.len-2.ensures ∙ c.loop-place.pairs.ok.0))
