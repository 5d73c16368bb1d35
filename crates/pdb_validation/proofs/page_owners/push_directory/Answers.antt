use Rattle.pdb_msf.proofs.lemmas.Outside.{outside, plain_directory_numbers}
use Rattle.pdb_validation.proofs.page_owners.push_directory.Goals as goal

pub returns-then-comes_from_outside : goal.returns-then-comes_from_outside
returns-then-comes_from_outside g c =
    outside _ _ _ _ c.in-Err.error _ _ (λ file. plain_directory_numbers file c.args.layout.now.head) c.in-Err.ensures
    (c.comes_from_outside.ensures.outside c.if-comes_from_outside.true)
