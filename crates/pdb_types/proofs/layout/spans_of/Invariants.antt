use Rattle.std.proofs.Common.{◌≡◌, map, take}
use Rattle.pdb_types.specs.Layout.{field_span}
use Rattle.pdb_types.proofs.layout.spans_of.Given as goal

abbrev pub invariant-loop-field : goal.invariant-loop-field
invariant-loop-field l = l.spans.items ≡ map field_span (take l.field-index l.fields)
