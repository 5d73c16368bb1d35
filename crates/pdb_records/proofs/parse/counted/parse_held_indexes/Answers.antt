use Rattle.std.proofs.Common.{◌≡◌, ℕ, ◌+◌, ◌-◌, ◌<◌, ◌∷◌, ◌++◌, [], length, ap, ◌∙◌, inl, arith}
use Rattle.std.proofs.lemmas.List.{length_push}
use Rattle.pdb_base.specs.Place.{left}
use Rattle.pdb_base.proofs.lemmas.Refused.{passed_on}
use Rattle.pdb_base.specs.Repeated.{read_times}
use Rattle.pdb_records.specs.Shape.{index_at}
use Rattle.pdb_records.proofs.StepLemmas.{behind, repeated_step, repeated_stops}
use Rattle.pdb_records.proofs.parse.counted.parse_held_indexes.Goals as goal

pub returns-in_err-parse_index-clause-read : goal.returns-in_err-parse_index-clause-read
returns-in_err-parse_index-clause-read g c =
    let some : 0 < c.args.count - length c.loop-indexes.indexes.items =
    omega (arith, c.loop-indexes-test.true, c.len.ensures) in
    rw (passed_on _ _ c.from_residual.ensures.1)
    (inl (c.loop-indexes.invariant.all ∙ repeated_stops
    (index_at g.I.Index.said) c.loop-indexes.indexes.items _ _ _ some c.in_err-parse_index.ensures))

pub loop-indexes-preserved : goal.loop-indexes-preserved
loop-indexes-preserved g c =
    let said = g.I.Index.said in
    let before = c.loop-indexes.indexes.items in
    let x = c.in_ok-parse_index.field-0 in
    let rest = left c.parse_index.new.buffer in
    let some : 0 < c.args.count - length before = omega (arith, c.loop-indexes-test.true, c.len.ensures) in
    let more : length (before ++ x ∷ []) ≡ length before + 1 = length_push before x in
    let fewer : c.args.count - length before - 1 ≡ c.args.count - length (before ++ x ∷ []) = omega (arith, more) in
    let step = repeated_step (index_at said) before (c.args.count - length before)
    (left c.loop-indexes.buffer) x rest some c.in_ok-parse_index.ensures in
    rw c.in_ok-push.ensures.items (record {
      all = c.loop-indexes.invariant.all ∙ step
          ∙ ap (λ (n : ℕ). behind (before ++ x ∷ []) (read_times (index_at said) n rest)) fewer;
      most = omega (arith, more, some);
    })
