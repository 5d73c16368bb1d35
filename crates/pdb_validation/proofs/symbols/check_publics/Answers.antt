use Rattle.pdb_validation.proofs.SymbolLemmas.{publics_told}
use Rattle.pdb_validation.proofs.symbols.check_publics.Goals as goal

pub returns : goal.returns
returns c =
    publics_told c.args.extent c.args.number c.args.stream.now _ _ _ _ _ c.if-stream-lt-PUBLICS_HEADER_SIZE.false
    c.publics_field-sizes.ensures c.publics_table-table.ensures c.new-mismatches.ensures.items
    c.in_ok-add_fields.ensures c.in_ok-add_hash_table.ensures
