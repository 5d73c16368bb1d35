use Rattle.pdb_base.specs.Place.{left}
use Rattle.pdb_base.proofs.lemmas.Refused.{passed_on}
use Rattle.pdb_records.proofs.DimensionSteps.{end_unseen, end_unread, end_no, end_yes}
use Rattle.pdb_records.proofs.parse.array.ends_dimensions.Goals as goal

pub returns-in_err-peek_u8 : goal.returns-in_err-peek_u8
returns-in_err-peek_u8 c = rw (passed_on _ _ c.from_residual.ensures.1)
    (end_unseen (left c.args.buffer.now) _ c.in_err-peek_u8.ensures)

pub returns-then-branch-ne0 : goal.returns-then-branch-ne0
returns-then-branch-ne0 c = end_no (left c.args.buffer.now) _ c.in_ok-peek_u8.ensures c.if-branch-ne0.true

pub returns-in_err-parse_u8 : goal.returns-in_err-parse_u8
returns-in_err-parse_u8 c = rw (passed_on _ _ c.from_residual-in_err-parse_u8.ensures.1)
    (end_unread (left c.args.buffer.now) _ c.in_err-parse_u8.ensures.read)

pub returns : goal.returns
returns c = end_yes (left c.args.buffer.now) _ _ _ c.in_ok-peek_u8.ensures c.if-branch-ne0.false
    c.in_ok-parse_u8.ensures.read
