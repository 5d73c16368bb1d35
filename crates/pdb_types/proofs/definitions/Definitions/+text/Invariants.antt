use Rattle.std.proofs.Common.{◌+◌, ◌*◌}
use Rattle.pdb_types.proofs.definitions.Definitions.+text.Given as goal

abbrev pub decreases-arguments_text : goal.decreases-arguments_text
decreases-arguments_text l = 2 * l.depth

abbrev pub decreases-declare : goal.decreases-declare
decreases-declare l = 2 * l.depth + 1
