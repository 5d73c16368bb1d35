use Rattle.std.proofs.Common.{sym, ap, ◌∙◌}
use Rattle.pdb_base.proofs.lemmas.Collected.{ok}
use Rattle.pdb_space.specs.StringTable.{names_of}
use Rattle.pdb_space.proofs.StringTableLemmas.{names_held}
use Rattle.pdb_space.proofs.string_table.StringTable.parse.Goals as goal

pub invariant_of-result : goal.invariant_of-result
invariant_of-result c = (names_held _ _ (ap names_of (sym c.as_slice.ensures.bytes) ∙ c.in_ok-names_size.ensures)).fits

pub returns : goal.returns
returns c =
    let read = ap names_of (sym c.as_slice.ensures.bytes) ∙ c.in_ok-names_size.ensures in
    read ∙ ap ok (sym (names_held _ _ read).behind)
