-- A flag that is set adds its word, and another one nothing.
use Rattle.std.proofs.Common.{refl, sym, ap, ◌∙◌}
use Rattle.std.proofs.lemmas.List.{append-nil}
use Rattle.pdbdump_rows.specs.Text.{in_quotes}
use Rattle.pdbdump_rows.proofs.WordLemmas.{none_chosen, word_added, word_kept}
use Rattle.pdbdump_rows.proofs.push.push_words.Goals as goal
use Rattle.pdbdump_rows.proofs.push.push_words.Goals.{then-is_set+in_ok-push_word, else-is_set}

pub loop-is_set-init : goal.loop-is_set-init
loop-is_set-init c = rw none_chosen (refl, sym (append-nil _))

pub loop-is_set-preserved : goal.loop-is_set-preserved
loop-is_set-preserved c =
    elim c.if-is_set.branch [
      | then-is_set+in_ok-push_word w ↦
          word_added (in_quotes c.args.form) c.args.flags.now c.loop-is_set.is_set-index _ _ _ c.push.new.self.items _ _
          c.loop-is_set-test.true w.if-is_set.true c.loop-is_set.invariant.0 c.loop-is_set.invariant.1 w.is_first-is
          (ap (λ v. v.items) w.out-is ∙ w.in_ok-push_word.ensures)
      | else-is_set w ↦
          word_kept (in_quotes c.args.form) c.args.flags.now c.loop-is_set.is_set-index _ _ _ c.push.new.self.items _ _
          c.loop-is_set-test.true w.if-is_set.false c.loop-is_set.invariant.0 c.loop-is_set.invariant.1 w.is_first-is
          (ap (λ v. v.items) w.out-is)
    ]
