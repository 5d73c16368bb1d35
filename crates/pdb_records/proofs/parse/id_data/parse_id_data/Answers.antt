use Rattle.pdb_base.specs.Place.{left}
use Rattle.pdb_values.specs.IdValue.{id_value}
use Rattle.pdb_records.specs.Ids.{id_at, IsId, NoId}
use Rattle.pdb_records.proofs.IdLaws.{ids_agree}
use Rattle.pdb_records.proofs.IdLemmas.{says_id, refuses_cut, lacks_for_list, shows_short}
use Rattle.pdb_records.proofs.AssignedLemmas.{says_assigned, shows_assigned, refuses_assigned}
use Rattle.pdb_records.proofs.parse.id_data.parse_id_data.Goals as goal

pub returns : goal.returns
returns c =
    let bytes = c.args.bytes.now in
    let rest = left c.parse_id_record.new.buffer in
    let parsed = c.parse_id_record.result in
    let is = rw c.from-buffer.ensures at c.parse_id_record.ensures.read in
    let held = rw c.from-buffer.ensures at c.parse_id_record.ensures.memory in
    record {
      read = says_id bytes rest parsed is;
      answers = says_assigned id_value id_at IsId NoId ids_agree bytes rest parsed is;
      answered = shows_assigned id_value id_at IsId NoId ids_agree bytes rest parsed is;
      refused = refuses_assigned id_value id_at IsId NoId ids_agree bytes rest parsed is;
      memory = lacks_for_list bytes parsed held;
      cut = refuses_cut bytes rest parsed is held;
      short = shows_short bytes rest parsed is;
    }
