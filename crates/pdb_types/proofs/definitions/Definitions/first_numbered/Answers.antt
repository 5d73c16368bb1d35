use Rattle.std.proofs.Common.{ap, ◌∙◌, ◌<◌, arith, length}
use Rattle.std.proofs.lemmas.List.{get_or_default}
use Rattle.pdb_base.proofs.lemmas.Collected.{ok, ok_is}
use Rattle.pdb_types.proofs.DefinitionLemmas.{number_first, number_none, of_name}
use Rattle.pdb_types.proofs.NumberLemmas.{told}
use Rattle.pdb_types.proofs.definitions.Definitions.first_numbered.Goals as goal

pub returns-then-branch : goal.returns-then-branch
returns-then-branch c =
    let are = of_name _ _ _ _ _ c.requires.numbered c.first-first.ensures.first
    (c.candidates-candidates.ensures _ c.requires.of_table.numbers) in
    let within : c.loop-candidate.candidate-index < length c.candidates-candidates.result.now = omega arith in
    ap ok (number_first _ _ _ _ are c.loop-candidate.candidate-index _ _ c.loop-candidate.invariant within
    (get_or_default _ _ _ _ within) (told _ _ _ _ _ _ c.requires.of_table.numbers c.index-index.ensures)
    (ok_is _ _ c.in_ok-defines.ensures ∙ c.if-branch.true))

pub returns : goal.returns
returns c =
    let are = of_name _ _ _ _ _ c.requires.numbered c.first-first.ensures.first
    (c.candidates-candidates.ensures _ c.requires.of_table.numbers) in
    ap ok (number_none _ _ _ _ are (λ i d below. c.loop-candidate.invariant i d (omega arith)))

pub index-index-requires-clause-fits : goal.index-index-requires-clause-fits
index-index-requires-clause-fits c = c.requires.of_table.numbers.fits
