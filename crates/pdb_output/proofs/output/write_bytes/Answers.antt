use Rattle.std.proofs.Common.{◌≡◌, ℕ, ◌-◌, ◌++◌, List, ap, sym, ◌∙◌, take, drop, length}
use Rattle.std.proofs.lemmas.List.{take_rest, take-append-drop}
use Rattle.pdb_output.proofs.lemmas.Written.{received_more, received_kept}
use Rattle.pdb_output.proofs.output.write_bytes.Goals.{in-Ok, in-Err}
use Rattle.pdb_output.proofs.output.write_bytes.Goals as goal

taken : (rest : List ℕ) (n : ℕ) → rest ≡ take n rest ++ take (length rest - n) (drop n rest)
taken rest n = sym (take-append-drop n rest) ∙ ap (λ (more : List ℕ). take n rest ++ more) (sym (take_rest rest n))

pub loop-preserved : goal.loop-preserved
loop-preserved g c = elim c.match-write.branch [
  | in-Ok w ↦ rw w.rest-is (received_more _ _ _ _ _ _ _
      (taken c.loop.rest.now w.in-Ok.count) c.loop.invariant w.in-Ok.ensures.bytes)
  | in-Err w ↦ rw w.rest-is (received_kept _ _ _ _ _ c.loop.invariant w.in-Err.ensures.bytes)
]
