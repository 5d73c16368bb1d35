-- The fields so far were added.
use Rattle.std.proofs.Common.{map, take}
use Rattle.pdbdump_rows.specs.Line.{AddsFields}
use Rattle.pdbdump_rows.specs.Row.{field_shown}
use Rattle.pdbdump_rows.proofs.line.Line.fields.Given as goal

abbrev pub invariant-loop-name : goal.invariant-loop-name
invariant-loop-name l = AddsFields (map field_shown (take l.name-index l.fields)) l.fn.self l.self
