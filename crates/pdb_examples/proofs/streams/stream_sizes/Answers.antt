use Rattle.std.proofs.Common.{refl, ◌∙◌}
use Rattle.pdb_examples.proofs.SizeLemmas.{none_yet, one_more, no_more}
use Rattle.pdb_examples.proofs.streams.stream_sizes.Goals as goal
use Rattle.pdb_examples.proofs.streams.stream_sizes.Goals.{in-Ok+in_ok-push-in-Ok, in-Err-StreamNotFound}

pub loop-number-init : goal.loop-number-init
loop-number-init c =
    record {
      head = rw c.in_ok-file.ensures.kept.bytes (c.in_ok-file.ensures.head refl);
      same = refl;
      so_far = c.new-sizes.ensures.items ∙ none_yet _ _;
    }

pub loop-number-preserved : goal.loop-number-preserved
loop-number-preserved c =
    record {
      head = rw c.get.ensures.head c.loop-number.invariant.head;
      same = c.get.ensures.source.bytes ∙ c.loop-number.invariant.same;
      so_far = elim c.match-get.branch [
        | in-Ok+in_ok-push-in-Ok w ↦ rw (
          c.get.ensures.source.bytes,
          c.get.ensures.head,
          w.sizes-is,
          w.push.ensures.items,
          w.in_ok-push-in-Ok.was,
          w.as_slice.ensures.bytes,
        )
            (one_more _ _ _ _ _ (w.in-Ok.ensures.answer refl) c.loop-number.invariant.so_far)
        | in-Err-StreamNotFound w ↦ rw (c.get.ensures.source.bytes, c.get.ensures.head, w.sizes-is)
            (no_more _ _ _ _ _ _
            (rw w.in-Err-StreamNotFound.field-0-is at (w.in-Err-StreamNotFound.ensures.answer refl))
            c.loop-number.invariant.so_far)
      ];
    }
