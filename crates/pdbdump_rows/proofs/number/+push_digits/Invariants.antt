-- Each call has one digit less.
use Rattle.pdbdump_rows.proofs.number.+push_digits.Given as goal

abbrev pub decreases-push_digits : goal.decreases-push_digits
decreases-push_digits l = l.number
