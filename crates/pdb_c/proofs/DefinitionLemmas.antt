-- The table whose definitions are found.
use Rattle.std.proofs.Common.{◌≡◌, ℕ, List, [], ◌∷◌, sym, Ok}
use Rattle.pdb_base.proofs.lemmas.Collected.{ok_is, ok_is_no_err}
use Rattle.pdb_tpi.specs.{Steps.walk_rest, Table.Table}
use Rattle.pdb_types.specs.Definition.{if_none_left, whole_table}

by_rest : (table found : Table) (rest : List ℕ) → if_none_left table rest ≡ Ok found → found ≡ table
by_rest table found [] is = sym (ok_is {A = Table} table found is)
by_rest table found (byte ∷ rest) is = absurd (ok_is_no_err found _ (sym is))

pub same_table : (table found : Table) → whole_table table ≡ Ok found → found ≡ table
unfolding whole_table
same_table table found is = by_rest table found (walk_rest table) is
