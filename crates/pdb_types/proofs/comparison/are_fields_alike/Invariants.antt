use Rattle.std.proofs.Common.{◌≡◌, drop, map}
use Rattle.pdb_types.specs.Comparison.{each_like, is_field_like}
use Rattle.pdb_types.specs.Layout.{field_value}
use Rattle.pdb_types.proofs.comparison.are_fields_alike.Given as goal

abbrev pub invariant-loop-place : goal.invariant-loop-place
invariant-loop-place l = each_like is_field_like (map field_value l.ones) (map field_value l.others)
    ≡ each_like is_field_like (map field_value (drop l.place l.ones)) (map field_value (drop l.place l.others))
