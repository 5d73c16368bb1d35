-- Behind the first index stand those that were shown so far, each behind a comma.
use Rattle.std.proofs.Common.{◌≡◌, ◌++◌, codes, take}
use Rattle.std.specs.List.{flat_map}
use Rattle.pdbdump_rows.specs.Lines.{index_text}
use Rattle.pdbdump_rows.proofs.push.push_indexes.Given as goal

abbrev pub invariant-loop-index : goal.invariant-loop-index
invariant-loop-index l = l.out.items ≡ l.initial.out.items
    ++ flat_map (λ next. codes "," ++ index_text l.form next) (take l.index-index l.rest)
