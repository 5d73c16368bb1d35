use Rattle.std.proofs.Common.{◌≡◌, ◌∙◌, ◌+◌, ap, sym, take, drop, List, ℕ}
use Rattle.std.proofs.lemmas.List.{drop-drop}
use Rattle.pdb_base.specs.Place.{left}
use Rattle.pdb_base.specs.Reading.{text_at}
use Rattle.pdb_base.proofs.lemmas.Collected.{ok}
use Rattle.pdb_base.proofs.TextLemmas.{text_found}
use Rattle.pdb_base.proofs.buffer.ParseBuffer.parse_cstring.Goals as goal

pub returns-clause-read : goal.returns-clause-read
returns-clause-read c =
    let len = c.in-Some.len in
    let rest = drop c.self.inside.pos c.self.inside.slice.now in
    let is : left c.args.self.now ≡ rest = ap left (sym c.self.view_is) in
    let text : c.from-text.result.0.now ≡ take len rest = c.from-text.ensures ∙ ap (take len) (c.rest.ensures ∙ is) in
    ap text_at is
    ∙ text_found rest len c.in-Some.ensures
    ∙ ap (λ (text : List ℕ). ok (text, drop (len + 1) rest)) (sym text)
    ∙ ap (λ (behind : List ℕ). ok (c.from-text.result.0.now, behind))
    (drop-drop (len + 1) c.self.inside.pos c.self.inside.slice.now)
