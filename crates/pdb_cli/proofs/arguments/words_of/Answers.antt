use Rattle.std.proofs.Common.{◌≡◌, Ok, sym, ap, ◌∙◌, rules}
use Rattle.std.proofs.lemmas.List.{map-id}
use Rattle.std.specs.Iterator.Adapters.{skip_source, skip_count}
use Rattle.std.specs.Vec.Iter.{into_iter_items, into_iter_len}
use Rattle.std.proofs.lemmas.Iterator.Adapters.{YieldsList-from_vec, YieldsList-from_skip}
use Rattle.std.proofs.lemmas.Iterator.Consumers.{YieldsList-end}
use Rattle.pdb_cli.proofs.arguments.words_of.Goals as goal

pub returns : goal.returns
returns c =
    let whole = c.args.args.rest.ok.0 in
    let start = c.into_iter-word-iterator.result in
    let source : skip_source start ≡ c.args.args = search rules in
    let count : skip_count start ≡ 1 = search rules in
    let words = YieldsList-from_vec (into_iter_items c.args.args) (ap into_iter_items source)
    (ap into_iter_len source ∙ whole) in
    let end = YieldsList-end (YieldsList-from_skip 1 words count) c.loop-word.yielded _ c.loop-word.yielded_by _
    c.next.new.self c.in-None.is c.next.ensures.steps in
    ap Ok (sym (c.loop-word.invariant ∙ sym (map-id c.loop-word.yielded) ∙ end.0))
