use Rattle.std.proofs.Common.{inl, arith}
use Rattle.pdb_base.specs.Place.{left}
use Rattle.pdb_records.proofs.StepLemmas.{indexes_short, indexes_item}
use Rattle.pdb_records.proofs.parse.counted.parse_indexes.Goals as goal

pub returns-then-len-count-clause-read : goal.returns-then-len-count-clause-read
returns-then-len-count-clause-read g c =
    inl (indexes_short g.I.Index.said c.args.count (left c.args.buffer.now)
    (omega (arith, c.len.ensures, c.if-len-count.true)))

pub returns-clause-memory : goal.returns-clause-memory
returns-clause-memory g c = λ want.
    let there = indexes_item g.I.Index.said c.args.count (left c.args.buffer.now)
    (omega (arith, c.len.ensures, c.if-len-count.false)) (c.parse_held_indexes.ensures.memory want) in
    rw there.3 tt
