use Rattle.std.proofs.Common.{◌≡◌}
use Rattle.pdb_fixtures.proofs.bytes.pages_of.Given as goal

abbrev pub invariant-loop-page : goal.invariant-loop-page
invariant-loop-page l = l.list.page_size ≡ 4096
