use Rattle.pdb_base.specs.Place.{left}
use Rattle.pdb_records.specs.Ids.{id_row_of, plain_id_at}
use Rattle.pdb_records.proofs.MemoryLemmas.{gives_no_want, plain_id_no_want}
use Rattle.pdb_records.proofs.parse.id_data.parse_id_leaf.Goals as goal

pub returns-in-Plain-clause-memory : goal.returns-in-Plain-clause-memory
returns-in-Plain-clause-memory c =
    gives_no_want _ c.parse_plain_id.result (plain_id_at (id_row_of c.args.number c.in-Plain.leaf)
    (left c.args.buffer.now)) _ (plain_id_no_want (id_row_of c.args.number c.in-Plain.leaf)
    (left c.args.buffer.now)) c.parse_plain_id.ensures
