use Rattle.std.proofs.Common.{inl, refl}
use Rattle.pdb_base.specs.Place.{left}
use Rattle.pdb_handles.proofs.RecordsLemmas.{arguments_record, list_record, no_leaf, other_record}
use Rattle.pdb_handles.proofs.records.write_record_row.Goals as goal

pub returns-in-Err : goal.returns-in-Err
returns-in-Err c =
    rw (no_leaf c.args.bytes.now _ (rw c.from-buffer.ensures at c.in-Err.ensures.read)) (inl (c.of.ensures, refl))

pub returns-then-kind-eq-LF_FIELDLIST : goal.returns-then-kind-eq-LF_FIELDLIST
returns-then-kind-eq-LF_FIELDLIST c =
    let leaf = rw c.from-buffer.ensures at c.in-Ok.ensures.read in
    list_record c.args.bytes.now (left c.parse_u16.new.self) c.in-Ok.kind _ c.args.row.now _ c.write_list_row.result
    leaf c.if-kind-eq-LF_FIELDLIST.true refl
    (c.write_list_row.ensures (left c.skip_field_list.new.buffer) _ c.skip_field_list.ensures.read)

pub returns-then-kind-eq-LF_ARGLIST : goal.returns-then-kind-eq-LF_ARGLIST
returns-then-kind-eq-LF_ARGLIST c =
    let leaf = rw c.from-buffer.ensures at c.in-Ok.ensures.read in
    arguments_record c.args.bytes.now (left c.parse_u16.new.self) c.in-Ok.kind _ c.args.row.now _
    c.write_arguments_row.result leaf c.if-kind-eq-LF_ARGLIST.true refl
    (c.write_arguments_row.ensures (left c.skip_arguments.new.buffer) _ c.skip_arguments.ensures)

pub returns : goal.returns
returns c =
    let leaf = rw c.from-buffer.ensures at c.in-Ok.ensures.read in
    c.write_row.ensures _ (other_record c.args.bytes.now (left c.parse_u16.new.self)
    (left c.parse_behind_leaf.new.buffer) c.in-Ok.kind c.parse_behind_leaf.result leaf
    c.if-kind-eq-LF_FIELDLIST.false c.parse_behind_leaf.ensures.read)
