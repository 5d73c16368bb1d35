-- Each field is added behind those before it.
use Rattle.pdbdump_rows.proofs.lemmas.Line.{field_more, no_field}
use Rattle.pdbdump_rows.proofs.line.Line.fields.Goals as goal

pub loop-name-init : goal.loop-name-init
loop-name-init c = no_field _

pub loop-name-preserved : goal.loop-name-preserved
loop-name-preserved c =
    field_more c.args.fields.now c.loop-name.name-index _ _ _ _ c.loop-name-test.true c.loop-name.invariant
    c.field.ensures.fields
