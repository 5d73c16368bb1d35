use Rattle.std.proofs.Common.{◌≡◌, length, None}
use Rattle.pdb_space.specs.Ranges.{parts_until}
use Rattle.pdb_space.proofs.range_iter.RangeIterIterator.next.Given as goal

abbrev pub invariant-loop-record : goal.invariant-loop-record
invariant-loop-record l = record {
  moved_only : l.self-inside.first ≡ None;
  parts : parts_until l.self-inside.records l.self-inside.asked ≡ l.fn.self;
}

abbrev pub decreases-loop-record : goal.decreases-loop-record
decreases-loop-record l = length l.self-inside.records
