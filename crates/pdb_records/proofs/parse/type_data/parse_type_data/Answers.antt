use Rattle.pdb_base.specs.Place.{left}
use Rattle.pdb_records.proofs.lemmas.Whole.{says_type, says_record, shows_record, refuses_record, says_cut, says_short}
use Rattle.pdb_records.proofs.parse.type_data.parse_type_data.Goals as goal

pub returns : goal.returns
returns c =
    let bytes = c.args.bytes.now in
    let rest = left c.parse_record.new.buffer in
    let parsed = c.parse_record.result in
    let is = rw c.from-buffer.ensures at c.parse_record.ensures.read in
    let held = rw c.from-buffer.ensures at c.parse_record.ensures.memory in
    record {
      read = says_type bytes rest parsed is;
      answers = says_record bytes rest parsed is;
      answered = shows_record bytes rest parsed is;
      refused = refuses_record bytes rest parsed is;
      memory = held;
      cut = says_cut bytes rest parsed is held;
      short = says_short bytes rest parsed is;
    }
