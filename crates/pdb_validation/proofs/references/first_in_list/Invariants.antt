use Rattle.std.proofs.Common.{◌≡◌, [], ◌∷◌, ◌++◌, drop}
use Rattle.pdb_values.specs.TypeView.{fields_value}
use Rattle.pdb_validation.specs.References.{fields_references, first_from, list_references, index_number}
use Rattle.pdb_validation.proofs.references.first_in_list.Given as goal

abbrev pub invariant-loop-field : goal.invariant-loop-field
invariant-loop-field l =
    first_from l.least
    (fields_references (fields_value (drop l.field-index l.list.fields.items)) ++ index_number l.list.continuation ∷ [])
    ≡ first_from l.least (list_references l.list)
