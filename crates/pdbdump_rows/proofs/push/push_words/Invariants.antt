-- Behind the bracket stand the words so far, and none of them was the first as long as no flag was set.
use Rattle.std.proofs.Common.{◌≡◌, ◌++◌, codes, map, take}
use Rattle.pdbdump_rows.specs.Lines.{is_none, separate}
use Rattle.pdbdump_rows.specs.Text.{in_quotes}
use Rattle.pdbdump_rows.specs.Row.{words_beside_true}
use Rattle.pdbdump_rows.proofs.push.push_words.Given as goal

abbrev pub invariant-loop-is_set : goal.invariant-loop-is_set
invariant-loop-is_set l =
    let words = words_beside_true (map (λ flag. (flag.0, flag.1.now)) (take l.is_set-index l.flags)) in
    (l.is_first ≡ is_none words) × (l.out.items ≡ l.initial.out.items ++ separate (codes ",") (in_quotes l.form) words)
