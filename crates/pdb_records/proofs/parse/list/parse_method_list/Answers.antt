use Rattle.std.proofs.Common.{◌≡◌, ◌≢◌, [], inl, inr, refl, ◌∙◌}
use Rattle.std.proofs.lemmas.Bool.{false≢true}
use Rattle.pdb_base.specs.Place.{left}
use Rattle.pdb_records.specs.Row.{row}
use Rattle.pdb_records.proofs.NoWant.{row_no_want}
use Rattle.pdb_records.proofs.StepLemmas.{to_end_stops}
use Rattle.pdb_records.specs.Rows.{listed_method_row}
use Rattle.pdb_records.specs.Memory.{HoldsMethod}
use Rattle.pdb_records.proofs.ListLemmas.{method_shorter, methods_end, methods_step}
use Rattle.pdb_records.proofs.MemoryLemmas.{refusal_no_want, holds_now, method_there}
use Rattle.pdb_records.proofs.parse.list.parse_method_list.Goals as goal

pub loop-buffer-smaller : goal.loop-buffer-smaller
loop-buffer-smaller c = method_shorter (left c.loop-buffer.buffer) _ _ c.in-Ok.ensures

pub loop-buffer-preserved : goal.loop-buffer-preserved
loop-buffer-preserved c =
    let here = method_there (left c.loop-buffer.buffer) c.in-Ok.method
    (left c.parse_listed_method.new.buffer) c.in-Ok.ensures in
    rw c.in_ok-push-in-Ok.ensures.items (record {
      all = c.loop-buffer.invariant.all ∙ methods_step c.loop-buffer.methods.items
          (left c.loop-buffer.buffer) c.in-Ok.method (left c.parse_listed_method.new.buffer) c.in-Ok.ensures;
      begun = inr (holds_now HoldsMethod (left c.loop-buffer.buffer)
          (left c.args.buffer.now) c.loop-buffer.invariant.begun here);
    })

pub returns-in_err-push-in-Ok-clause-memory : goal.returns-in_err-push-in-Ok-clause-memory
returns-in_err-push-in-Ok-clause-memory c = λ want.
    holds_now HoldsMethod (left c.loop-buffer.buffer) (left c.args.buffer.now) c.loop-buffer.invariant.begun
    (method_there (left c.loop-buffer.buffer) c.in-Ok.method (left c.parse_listed_method.new.buffer) c.in-Ok.ensures)

pub returns-in-Err-clause-read : goal.returns-in-Err-clause-read
returns-in-Err-clause-read c =
    let some : left c.loop-buffer.buffer ≢ [] = λ none. false≢true (c.loop-buffer-test.ensures.1 none) in
    inl (c.loop-buffer.invariant.all ∙ to_end_stops (row listed_method_row) c.loop-buffer.methods.items
    (left c.loop-buffer.buffer) _ some c.in-Err.ensures)

pub returns-in-Err-clause-memory : goal.returns-in-Err-clause-memory
returns-in-Err-clause-memory c = refusal_no_want (row listed_method_row (left c.loop-buffer.buffer)) c.in-Err.error _
    (row_no_want listed_method_row (left c.loop-buffer.buffer)) c.in-Err.ensures

pub returns-clause-read : goal.returns-clause-read
returns-clause-read c =
    let none : left c.loop-buffer.buffer ≡ [] = c.loop-buffer-test.ensures.0 refl in
    c.loop-buffer.invariant.all ∙ methods_end c.loop-buffer.methods.items (left c.loop-buffer.buffer) none
