use Rattle.std.proofs.Common.{◌≡◌, drop, map}
use Rattle.pdb_types.specs.Comparison.{each_like, enumerator_of_code, is_enumerator_like}
use Rattle.pdb_types.proofs.comparison.are_enumerators_alike.Given as goal

abbrev pub invariant-loop-place : goal.invariant-loop-place
invariant-loop-place l =
    each_like (is_enumerator_like l.over l.other_over) (map enumerator_of_code l.ones) (map enumerator_of_code l.others)
    ≡ each_like (is_enumerator_like l.over l.other_over) (map enumerator_of_code (drop l.place l.ones))
    (map enumerator_of_code (drop l.place l.others))
