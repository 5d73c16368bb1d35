use Rattle.std.proofs.Common.{◌≡◌, [], Ok, Err, arith}
use Rattle.pdb_base.specs.Refusal.{refusal_of}
use Rattle.pdb_base.specs.Answer.{Answers}
use Rattle.pdb_base.specs.Memory.{LacksOnlyIf}
use Rattle.pdb_base.specs.Place.{left}
use Rattle.pdb_base.specs.Reading.{number_at}
use Rattle.pdb_values.specs.TypeView.{type_value}
use Rattle.pdb_records.specs.Fields.{record_at}
use Rattle.pdb_records.specs.Memory.{NeedsMemory}
use Rattle.pdb_records.proofs.lemmas.Whole.{says_type, says_record, shows_record, refuses_record, says_cut, says_short}
use Rattle.pdb_records.proofs.lemmas.Whole.{reads_list, reads_other, reads_none, none_no_want}
use Rattle.pdb_tpi.proofs.RecordLemmas.{needs_behind, needs_fields, primitive_short, reads_record}
use Rattle.pdb_tpi.proofs.type_record.Item+TypeIndex.parse.Goals as goal

pub returns-then-index-lt-FIRST_RECORD-clause-short : goal.returns-then-index-lt-FIRST_RECORD-clause-short
returns-then-index-lt-FIRST_RECORD-clause-short c =
    primitive_short _ c.args.self.now.index.0 c.type_data_for_primitive.result c.type_data_for_primitive.ensures

-- no bytes for the leaf
pub returns-in_err-kind : goal.returns-in_err-kind
returns-in_err-kind c =
    let bytes = c.args.self.now.bytes.now in
    let above = c.if-index-lt-FIRST_RECORD.false in
    let parsed = c.from_residual.result in
    let none : number_at 2 bytes ≡ Err (refusal_of c.in_err-kind.field-0.0) =
    rw c.from-buffer.ensures at c.in_err-kind.ensures.read in
    let is : Answers (λ t. (type_value t, [])) parsed (record_at bytes) =
    reads_none bytes [] parsed c.in_err-kind.field-0.0 none c.from_residual.ensures.1 in
    let held : LacksOnlyIf parsed (NeedsMemory bytes) =
    none_no_want bytes parsed c.in_err-kind.field-0.0 none c.from_residual.ensures.1 in
    record {
      read = rw (← reads_record c.args.self.now.index.0 bytes above) (says_type bytes [] parsed is);
      primitive = λ below. absurd (omega (arith, below, above));
      answers = λ above. says_record bytes [] parsed is;
      answered = λ above. shows_record bytes [] parsed is;
      refused = λ above. refuses_record bytes [] parsed is;
      memory = λ lacks. (above, held lacks);
      cut = λ above. says_cut bytes [] parsed is held;
      short = says_short bytes [] parsed is;
    }

-- a list of fields
pub returns-then-kind-eq-LF_FIELDLIST : goal.returns-then-kind-eq-LF_FIELDLIST
returns-then-kind-eq-LF_FIELDLIST c =
    let bytes = c.args.self.now.bytes.now in
    let above = c.if-index-lt-FIRST_RECORD.false in
    let mid = left c.parse_u16.new.self in
    let rest = left c.parse_field_list.new.buffer in
    let parsed = c.parse_field_list.result in
    let kind = c.in_ok-kind.kind in
    let leaf : number_at 2 bytes ≡ Ok (kind, mid) = rw c.from-buffer.ensures at c.in_ok-kind.ensures.read in
    let is : Answers (λ t. (type_value t, rest)) parsed (record_at bytes) =
    rw (reads_list bytes mid kind leaf c.if-kind-eq-LF_FIELDLIST.true) at c.parse_field_list.ensures.read in
    let held : LacksOnlyIf parsed (NeedsMemory bytes) = λ want. needs_fields bytes kind mid leaf
    c.if-kind-eq-LF_FIELDLIST.true (c.parse_field_list.ensures.memory want) in
    record {
      read = rw (← reads_record c.args.self.now.index.0 bytes above) (says_type bytes rest parsed is);
      primitive = λ below. absurd (omega (arith, below, above));
      answers = λ above. says_record bytes rest parsed is;
      answered = λ above. shows_record bytes rest parsed is;
      refused = λ above. refuses_record bytes rest parsed is;
      memory = λ lacks. (above, held lacks);
      cut = λ above. says_cut bytes rest parsed is held;
      short = says_short bytes rest parsed is;
    }

-- any other record
pub returns : goal.returns
returns c =
    let bytes = c.args.self.now.bytes.now in
    let above = c.if-index-lt-FIRST_RECORD.false in
    let mid = left c.parse_u16.new.self in
    let rest = left c.parse_behind_leaf.new.buffer in
    let parsed = c.parse_behind_leaf.result in
    let kind = c.in_ok-kind.kind in
    let leaf : number_at 2 bytes ≡ Ok (kind, mid) = rw c.from-buffer.ensures at c.in_ok-kind.ensures.read in
    let is : Answers (λ t. (type_value t, rest)) parsed (record_at bytes) =
    rw (reads_other bytes mid kind leaf c.if-kind-eq-LF_FIELDLIST.false) at c.parse_behind_leaf.ensures.read in
    let held : LacksOnlyIf parsed (NeedsMemory bytes) = λ want. needs_behind bytes kind mid leaf
    c.if-kind-eq-LF_FIELDLIST.false (c.parse_behind_leaf.ensures.memory want) in
    record {
      read = rw (← reads_record c.args.self.now.index.0 bytes above) (says_type bytes rest parsed is);
      primitive = λ below. absurd (omega (arith, below, above));
      answers = λ above. says_record bytes rest parsed is;
      answered = λ above. shows_record bytes rest parsed is;
      refused = λ above. refuses_record bytes rest parsed is;
      memory = λ lacks. (above, held lacks);
      cut = λ above. says_cut bytes rest parsed is held;
      short = says_short bytes rest parsed is;
    }
