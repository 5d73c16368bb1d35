-- Two cuts of the sorted numbers leave those that may be of the name.
use Rattle.std.proofs.Common.{ℕ, ◌+◌, rules, ltb, leb, ap, drop}
use Rattle.std.proofs.lemmas.List.Sorted.{IsPartitionPoint-from_clause, IsPartitionedBy-ltb, IsPartitionedBy-leb}
use Rattle.std.proofs.lemmas.List.Sorted.{IsNonDecreasingBy-drop}
use Rattle.pdb_types.specs.declared.numbering.Numbering.{Numbering}
use Rattle.pdb_types.proofs.NumberLemmas.{candidates}
use Rattle.pdb_types.proofs.definition_index.DefinitionIndex.candidates.Goals as goal

pub returns : goal.returns
returns c = λ table are.
    let first = c.args.first in
    let last = first + c.args.self.now.numbering.most in
    let numbers = c.args.self.now.numbers.items in
    let start = c.partition_point-start.result in
    let most = ap (λ (n : Numbering). n.most) are.numbered in
    let from = IsPartitionPoint-from_clause (λ (n : ℕ). ltb n first) numbers start
    (rw c.numbers-numbers.ensures at c.partition_point-start.ensures.partitioned)
    (IsPartitionedBy-ltb (λ (n : ℕ). n) numbers first are.sorted) (λ a r f k. search rules) in
    let to = IsPartitionPoint-from_clause (λ (n : ℕ). leb n last) (drop start numbers)
    c.partition_point-count.result
    (rw (c.part_from-rest.ensures, c.numbers-numbers.ensures) at c.partition_point-count.ensures.partitioned)
    (IsPartitionedBy-leb (λ (n : ℕ). n) (drop start numbers) last
    (IsNonDecreasingBy-drop (λ (n : ℕ). n) start numbers are.sorted)) (λ a r f k. search rules) in
    rw (c.part_from-rest.ensures, c.numbers-numbers.ensures)
    (candidates table c.args.self.now.numbering first numbers start c.partition_point-count.result are
    (rw c.numbers-numbers.ensures at c.partition_point-start.ensures.bound)
    (rw (c.part_from-rest.ensures, c.numbers-numbers.ensures) at c.partition_point-count.ensures.bound)
    from (rw most at to))
