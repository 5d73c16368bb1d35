use Rattle.std.proofs.Common.{◌≢◌, [], refl, ◌∙◌}
use Rattle.std.proofs.lemmas.Bool.{false≢true}
use Rattle.pdb_base.specs.Place.{left}
use Rattle.pdb_base.proofs.lemmas.Refused.{passed_on}
use Rattle.pdb_records.proofs.DimensionSteps.{peeked_some, padding_none, padding_ends, padding_cut, padding_step}
use Rattle.pdb_records.proofs.parse.array.skip_padding.Goals as goal

pub returns-in_err-byte : goal.returns-in_err-byte
returns-in_err-byte c =
    let some : left c.loop-buffer.buffer ≢ [] = λ none. false≢true (c.loop-buffer-test.ensures.1 none) in
    absurd (peeked_some (left c.loop-buffer.buffer) _ some c.in_err-byte.ensures)

pub returns-then-byte-lt-LF_PAD0 : goal.returns-then-byte-lt-LF_PAD0
returns-then-byte-lt-LF_PAD0 c = c.loop-buffer.invariant
    ∙ padding_none (left c.loop-buffer.buffer) _ c.in_ok-byte.ensures c.if-byte-lt-LF_PAD0.true

pub loop-buffer-smaller : goal.loop-buffer-smaller
loop-buffer-smaller c =
    (padding_step (left c.loop-buffer.buffer) _ _ _ c.in_ok-byte.ensures c.if-byte-lt-LF_PAD0.false
    (rw c.pad_length.ensures at c.in_ok-take.ensures.read)).1

pub loop-buffer-preserved : goal.loop-buffer-preserved
loop-buffer-preserved c =
    c.loop-buffer.invariant
    ∙ (padding_step (left c.loop-buffer.buffer) _ _ _ c.in_ok-byte.ensures c.if-byte-lt-LF_PAD0.false
    (rw c.pad_length.ensures at c.in_ok-take.ensures.read)).0

pub returns-in_err-take : goal.returns-in_err-take
returns-in_err-take c =
    rw (passed_on _ _ c.from_residual-in_err-take.ensures.1)
    (c.loop-buffer.invariant ∙ padding_cut (left c.loop-buffer.buffer) _ _ c.in_ok-byte.ensures
    c.if-byte-lt-LF_PAD0.false (rw c.pad_length.ensures at c.in_err-take.ensures.read))

pub returns : goal.returns
returns c = c.loop-buffer.invariant ∙ padding_ends (left c.loop-buffer.buffer) (c.loop-buffer-test.ensures.0 refl)
