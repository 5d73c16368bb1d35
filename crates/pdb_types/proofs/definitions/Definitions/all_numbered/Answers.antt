use Rattle.std.proofs.Common.{ℕ, ◌<◌, ap, sym, ◌∙◌, arith, length}
use Rattle.std.proofs.lemmas.List.{append-nil, get_or_default, map-append}
use Rattle.pdb_base.proofs.lemmas.Collected.{ok, ok_is}
use Rattle.pdb_types.specs.Numbering.{index_of_number}
use Rattle.pdb_types.proofs.DefinitionLemmas.{named_all, named_more, of_name}
use Rattle.pdb_types.proofs.NumberLemmas.{told}
use Rattle.pdb_types.proofs.definitions.Definitions.all_numbered.Goals as goal

pub loop-candidate-preserved-then-not-branch : goal.loop-candidate-preserved-then-not-branch
loop-candidate-preserved-then-not-branch c =
    let are = of_name _ _ _ _ _ c.requires.numbered c.first-first.ensures.first
    (c.candidates-candidates.ensures _ c.requires.of_table.numbers) in
    let within : c.loop-candidate.candidate-index < length c.candidates-candidates.result.now = omega arith in
    rw (ok_is _ _ c.in_ok-defines.ensures ∙ c.if-not-branch.true, append-nil) at
    (named_more _ _ _ _ are c.loop-candidate.candidate-index _ _ c.loop-candidate.invariant _ within
    (λ d. ap (λ (n : ℕ). index_of_number c.args.self.now c.first-first.result n) (get_or_default _ _ _ _ within)
    ∙ sym (told _ _ _ _ _ _ c.requires.of_table.numbers c.index-index.ensures))
    c.if-number-next.false)

pub loop-candidate-preserved : goal.loop-candidate-preserved
loop-candidate-preserved c =
    let are = of_name _ _ _ _ _ c.requires.numbered c.first-first.ensures.first
    (c.candidates-candidates.ensures _ c.requires.of_table.numbers) in
    let within : c.loop-candidate.candidate-index < length c.candidates-candidates.result.now = omega arith in
    rw (c.in_ok-push.ensures.items, map-append)
    (rw (ok_is _ _ c.in_ok-defines.ensures ∙ c.if-not-branch.false) at
    (named_more _ _ _ _ are c.loop-candidate.candidate-index _ _ c.loop-candidate.invariant _ within
    (λ d. ap (λ (n : ℕ). index_of_number c.args.self.now c.first-first.result n) (get_or_default _ _ _ _ within)
    ∙ sym (told _ _ _ _ _ _ c.requires.of_table.numbers c.index-index.ensures))
    c.if-number-next.false))

pub returns : goal.returns
returns c =
    let are = of_name _ _ _ _ _ c.requires.numbered c.first-first.ensures.first
    (c.candidates-candidates.ensures _ c.requires.of_table.numbers) in
    ap ok (named_all _ _ _ _ are c.loop-candidate.candidate-index _ _ c.loop-candidate.invariant (omega arith))

pub index-index-requires-clause-fits : goal.index-index-requires-clause-fits
index-index-requires-clause-fits c = c.requires.of_table.numbers.fits

pub overflow_cast-next : goal.overflow_cast-next
overflow_cast-next c = let fits = c.requires.of_table.numbers.fits in omega (arith, fits)
