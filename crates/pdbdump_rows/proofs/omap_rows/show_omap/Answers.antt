use Rattle.pdbdump_rows.proofs.lemmas.Line.{fields_more, first_field}
use Rattle.pdbdump_rows.specs.Line.{moved_from}
use Rattle.pdbdump_rows.proofs.omap_rows.show_omap.Goals as goal

pub returns : goal.returns
returns c = fields_more (moved_from c.args.mapping.source) _ _ _ c.field-2.ensures.row
    (first_field _ _ _ (rw c.source_address.ensures at c.field.ensures.fields))
