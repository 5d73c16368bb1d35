use Rattle.std.proofs.Common.{List, ap, ◌∙◌}
use Rattle.std.specs.List.{slice_get}
use Rattle.pdb_base.specs.declared.index.TypeIndex.{TypeIndex}
use Rattle.pdb_base.proofs.lemmas.Collected.{ok, ok_is}
use Rattle.pdb_types.proofs.DefinitionLemmas.{first_of_all}
use Rattle.pdb_types.proofs.definitions.Definitions.first_definition.Goals as goal

pub returns : goal.returns
returns c = ap ok (first_of_all _ _ _ _ (ok_is _ _ c.in_ok-all.ensures)
    (c.copied.ensures ∙ c.first.ensures.value ∙ ap (λ (l : List TypeIndex). slice_get l 0) c.deref.ensures.value))
