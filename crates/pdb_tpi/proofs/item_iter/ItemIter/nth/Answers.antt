use Rattle.std.proofs.Common.{◌≡◌, ◌+◌, ◌≤◌, sym, ap, ◌∙◌, arith}
use Rattle.pdb_base.specs.Count.{calls_of, one_more}
use Rattle.pdb_base.proofs.lemmas.Refused.{passed_on}
use Rattle.pdb_tpi.specs.Table.{Table}
use Rattle.pdb_tpi.specs.Steps.{WalkPosition, steps_taken, nth_item, reads_one}
use Rattle.pdb_tpi.proofs.StepLemmas.{nth_further, nth_err}
use Rattle.pdb_base.proofs.lemmas.Count.{one_call}
use Rattle.pdb_tpi.proofs.CountLemmas.{nth_within, reads_item, last_count}
use Rattle.pdb_tpi.proofs.item_iter.ItemIter.nth.Goals as goal

pub returns-in_err-read-clause-item : goal.returns-in_err-read-clause-item
returns-in_err-read-clause-item g c =
    let place = c.loop.invariant.place in
    let test = c.loop-test.true in
    let to = steps_taken c.args.self.now + c.args.steps in
    let later : steps_taken c.loop.self ≤ to = omega arith in
    rw (passed_on _ _ c.from_residual.ensures.1)
    (ap (λ (t : Table). nth_item t to) (sym c.loop.invariant.table)
    ∙ nth_further c.loop.self.table (steps_taken c.loop.self) to _ c.in_err-read.ensures.item later)

pub returns-in_err-read-clause-counted : goal.returns-in_err-read-clause-counted
returns-in_err-read-clause-counted g c =
    let stops = (nth_err c.loop.self.table (steps_taken c.loop.self) _ c.in_err-read.ensures.item).0 in
    let test = c.loop-test.true in
    c.in_err-read.ensures.counted ∙ ap (reads_one c.loop.self) c.loop.invariant.counted
    ∙ last_count c.args.self.now c.loop.self c.args.steps c.loop.counter
    (calls_of c.args.count.now) c.loop.invariant.table c.loop.invariant.place c.in_err-read.ensures.reached.1
    (omega arith) (λ within. absurd (omega (arith, stops, within)))

pub loop-preserved : goal.loop-preserved
loop-preserved g c =
    let within = nth_within c.loop.self.table (steps_taken c.loop.self) _ c.in_ok-read.ensures.item in
    let place = c.loop.invariant.place in
    let index = c.loop.invariant.index in
    let least = c.in_ok-read.ensures.reached.0 in
    record {
      table = ap (λ (s : WalkPosition). s.table) c.in_ok-read.ensures.moved ∙ c.loop.invariant.table;
      index = ap (λ (s : WalkPosition). s.index) c.in_ok-read.ensures.moved ∙ omega arith;
      place = ap steps_taken c.in_ok-read.ensures.moved ∙ omega arith;
      counted = c.in_ok-read.ensures.counted ∙ reads_item c.loop.self (calls_of c.loop.count) within
          ∙ ap one_more c.loop.invariant.counted ∙ one_call (calls_of c.args.count.now) c.loop.counter;
    }

pub returns-clause-counted : goal.returns-clause-counted
returns-clause-counted g c =
    let end : c.loop.counter ≡ c.args.steps = omega arith in
    c.read-2.ensures.counted ∙ ap (reads_one c.loop.self) c.loop.invariant.counted
    ∙ last_count c.args.self.now c.loop.self c.args.steps c.loop.counter
    (calls_of c.args.count.now) c.loop.invariant.table c.loop.invariant.place c.read-2.ensures.reached.1
    (omega arith) (λ _. end)
