-- What was added so far is what the characters so far are shown as.
use Rattle.std.proofs.Common.{◌≡◌, ◌++◌}
use Rattle.std.specs.List.{flat_map}
use Rattle.pdbdump_rows.specs.Text.{shown_char}
use Rattle.pdbdump_rows.proofs.text.push_text.Given as goal

abbrev pub invariant-loop-c : goal.invariant-loop-c
invariant-loop-c l = l.out.items ≡ l.initial.out.items ++ flat_map (shown_char l.form) l.yielded
