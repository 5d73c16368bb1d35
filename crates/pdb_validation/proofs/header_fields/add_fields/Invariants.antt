use Rattle.std.proofs.Common.{◌≡◌, drop}
use Rattle.pdb_validation.specs.HeaderFields.{fields_mismatches}
use Rattle.pdb_validation.specs.Mismatch.{with_further}
use Rattle.pdb_validation.proofs.header_fields.add_fields.Given as goal

abbrev pub invariant-loop-field : goal.invariant-loop-field
invariant-loop-field l =
    with_further l.extent l.mismatches.items (fields_mismatches l.stream (drop l.field-index l.fields))
    ≡ with_further l.extent l.initial.mismatches.items (fields_mismatches l.stream l.fields)
