use Rattle.std.proofs.Common.{◌≤◌, length, ◌∙◌, arith, refl}
use Rattle.pdb_base.specs.Place.{left}
use Rattle.pdb_file.proofs.HeaderLemmas.{header_step}
use Rattle.pdb_file.proofs.section_headers.section_headers.Goals as goal

pub loop-preserved : goal.loop-preserved
loop-preserved c =
    let long : 40 ≤ length (left c.loop.buffer) = omega (arith, c.loop.invariant.rest, c.loop-test.true) in
    let step = header_step c.loop.headers.items (left c.loop.buffer) c.in_ok-parse.field-0
    (left c.parse.new.buffer) long c.in_ok-parse.ensures.read in
    record {
      all = c.loop.invariant.all ∙ step.0 ∙ rw c.push_reserved.ensures.items refl;
      rest = omega (arith, step.1, c.loop.invariant.rest, c.loop-test.true);
      counted = omega (arith, c.push_reserved.ensures.len, c.loop.invariant.counted);
      room = omega (arith, c.push_reserved.ensures.capacity, c.loop.invariant.room);
    }
