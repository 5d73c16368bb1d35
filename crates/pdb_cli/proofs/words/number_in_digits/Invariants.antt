use Rattle.std.proofs.Common.{◌≤◌}
use Rattle.pdb_cli.proofs.WordLemmas.{HasRead}
use Rattle.pdb_cli.proofs.words.number_in_digits.Given as goal

abbrev pub invariant-loop-digit : goal.invariant-loop-digit
invariant-loop-digit l = record {
  read : HasRead l.base l.digits l.digit-index l.value;
  fits : l.value ≤ 0xffffffff;
}
