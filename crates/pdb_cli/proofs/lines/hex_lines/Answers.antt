use Rattle.std.proofs.Common.{◌≡◌, ◌<◌, ◌+◌, ◌*◌, ◌++◌, ℕ, List, length, drop, min, sym, ap, subst, ◌∙◌}
use Rattle.pdb_cli.specs.Lines.{hex_line}
use Rattle.pdb_cli.proofs.LineLemmas.{lines_to, lines_more, piece_is_line, line_left}
use Rattle.pdb_cli.proofs.lines.hex_lines.Goals as goal

pub loop-bytes-preserved : goal.loop-bytes-preserved
loop-bytes-preserved c =
    let all = c.args.all.now in
    let before = c.loop-bytes.invariant in
    let n = before.lines.0 in
    let step = c.in-Some.ensures.steps in
    let long : length c.in-Some.bytes.now ≡ min 32 (length (drop (32 * n) all)) =
    step.1.1 ∙ ap (λ (size : ℕ). min size (length c.loop-bytes.bytes-iterator.rest.now)) before.size
    ∙ ap (λ (xs : List ℕ). min 32 (length xs)) before.lines.1 in
    let next = piece_is_line all c.in-Some.bytes.now c.next.new.self.rest.now n (sym before.lines.1 ∙ step.1.0) long in
    let some : 0 < length (drop (32 * n) all) = subst (λ (xs : List ℕ). 0 < length xs) before.lines.1 step.1.2 in
    record {
      size = step.0 ∙ before.size;
      lines = (
        n + 1,
        next.1,
        line_left all n some before.lines.2,
        c.in_ok-push_line.ensures.ok ∙ ap (λ (out : List ℕ). out ++ hex_line c.in-Some.bytes.now) before.lines.3
            ∙ ap (λ (bytes : List ℕ). lines_to all n ++ hex_line bytes) next.0 ∙ sym (lines_more all n),
      );
    }
