-- One table behind the other.
use Rattle.pdb_base.proofs.lemmas.Refused.{passed_on}
use Rattle.pdbdump_tables.proofs.ListedLemmas.{listed_first, listed_second}
use Rattle.pdbdump_tables.proofs.lemmas.Reading.{read_later, read_of}
use Rattle.pdbdump_tables.proofs.omap_roles.list_both.Goals as goal

pub returns-in_err-list_role : goal.returns-in_err-list_role
returns-in_err-list_role g c =
    let to_read = rw c.msf_number-to_number.ensures at c.numbered_stream-to_source.ensures in
    let from_read = rw c.msf_number-from_number.ensures at c.numbered_stream-from_source.ensures in
    record {
      to_source = c.numbered_stream-to_source.result;
      from_source = c.numbered_stream-from_source.result;
      to_read = read_of _ _ _ _ _ to_read;
      from_read = read_later _ _ c.args.file.now _ _ _ to_read.source to_read.head from_read;
      listed = rw (passed_on _ _ c.from_residual.ensures.1) (listed_first _ _ _ _ _ _ c.in_err-list_role.ensures);
    }

pub returns : goal.returns
returns g c =
    let to_read = rw c.msf_number-to_number.ensures at c.numbered_stream-to_source.ensures in
    let from_read = rw c.msf_number-from_number.ensures at c.numbered_stream-from_source.ensures in
    record {
      to_source = c.numbered_stream-to_source.result;
      from_source = c.numbered_stream-from_source.result;
      to_read = read_of _ _ _ _ _ to_read;
      from_read = read_later _ _ c.args.file.now _ _ _ to_read.source to_read.head from_read;
      listed = listed_second _ _ _ _ _ _ _ c.in_ok-list_role.ensures c.list_role-2.ensures;
    }
