use Rattle.std.proofs.Common.{rules}
use Rattle.std.proofs.lemmas.List.Sorted.{IsNonDecreasingBy-from_sort_by_key}
use Rattle.std.proofs.lemmas.Result.{IfOk-weaker}
use Rattle.pdb_types.specs.declared.span.Span.{Span}
use Rattle.pdb_types.proofs.SpanLemmas.{gaps_moved}
use Rattle.pdb_types.proofs.span.gaps.Goals as goal

pub sorted_gaps-requires : goal.sorted_gaps-requires
sorted_gaps-requires c = IsNonDecreasingBy-from_sort_by_key
    (λ (span : Span). span.start) _ c.sort_unstable_by_key.ensures.sorted (λ a r f k. search rules)

pub returns : goal.returns
returns c =
    IfOk-weaker _ _ _ (λ gaps are. gaps_moved _ _ _ _ c.sort_unstable_by_key.ensures.permutation are)
    c.sorted_gaps.ensures
