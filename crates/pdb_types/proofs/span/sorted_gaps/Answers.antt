use Rattle.std.proofs.Common.{◌<◌, ◌≤◌, arith, length}
use Rattle.std.proofs.lemmas.List.{get_or_default}
use Rattle.pdb_types.proofs.SpanLemmas.{gaps_end, gaps_more}
use Rattle.pdb_types.proofs.span.sorted_gaps.Goals as goal

pub loop-span-preserved : goal.loop-span-preserved
loop-span-preserved c =
    let within : c.loop-span.span-index < length c.args.spans.now = omega arith in
    rw (c.greatest-at.ensures, c.greatest.ensures, c.in_ok-push_gap.ensures, c.least.ensures)
    (gaps_more _ _ _ _ _ _ c.requires c.loop-span.invariant within (get_or_default _ _ _ _ within))

pub returns : goal.returns
returns c =
    let past : length c.args.spans.now ≤ c.loop-span.span-index = omega arith in
    rw c.in_ok-push_gap-2.ensures (gaps_end _ _ _ _ _ c.loop-span.invariant past)
