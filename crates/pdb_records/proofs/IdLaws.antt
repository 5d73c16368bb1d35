-- Id records are read as the grammar assigns them.
use Rattle.std.proofs.Common.{ℕ}
use Rattle.pdb_base.specs.Spelling.{Begins}
use Rattle.pdb_base.specs.Reading.{number_at}
use Rattle.pdb_records.specs.Agreement.{Agrees, NoTwoValues}
use Rattle.pdb_records.specs.Shape.{u16, Spells, as_id, as_type}
use Rattle.pdb_records.specs.Fault.{Refuses}
use Rattle.pdb_records.specs.Row.{Assigns, Stops, row}
use Rattle.pdb_records.proofs.Agreeing.{chained, mapped, one_value}
use Rattle.pdb_records.proofs.ShapeLaws.{shapes}
use Rattle.pdb_records.proofs.RowLaws.{rows}
use Rattle.pdb_values.specs.IdValue as values
use Rattle.pdb_records.specs.declared.id_leaf.IdLeaf.{IdLeaf}
use Rattle.pdb_records.specs.declared.id_leaf.IdLeaf.TheVariants.{Plain, BuildInfo, StringList}
use Rattle.pdb_records.specs.declared.parse.counted.CountWidth.TheVariants.{Bits16, Bits32}
use Rattle.pdb_records.specs.Counted.{counted_at}
use Rattle.pdb_records.specs.IdRows.{build_info_row, string_list_row}
use Rattle.pdb_records.specs.Ids.{id_leaf_of, id_row_of, id_data_at, behind_id_leaf, id_at, IsIdData, NoIdData}
use Rattle.pdb_records.specs.Ids.{IsBehindId, NoBehindId, IsId, NoId}
use Rattle.pdb_records.proofs.CountedLemmas.{types_agree, ids_agree_in_list}
use Rattle.pdb_records.proofs.KnownLaws.{known_agrees}

data_agrees : (number : ℕ) (leaf : IdLeaf)
    → Agrees (id_data_at number leaf) (IsIdData number leaf) (NoIdData number leaf)
data_agrees number (Plain leaf) = mapped values.plain (row (id_row_of number leaf)) (Assigns (id_row_of number leaf))
    (Stops (id_row_of number leaf)) (rows (id_row_of number leaf))
data_agrees number BuildInfo = mapped values.build_info (counted_at Bits16 as_id) (Assigns build_info_row)
    (Stops build_info_row) (ids_agree_in_list Bits16)
data_agrees number StringList = mapped values.string_list (counted_at Bits32 as_type) (Assigns string_list_row)
    (Stops string_list_row) (types_agree Bits32)

behind_agrees : (number : ℕ) → Agrees (behind_id_leaf number) (IsBehindId number) (NoBehindId number)
unfolding behind_id_leaf
behind_agrees number = known_agrees number (id_data_at number) (IsIdData number) (NoIdData number) (data_agrees number)
    (id_leaf_of number)

pub ids_agree : Agrees id_at IsId NoId
unfolding id_at
ids_agree =
    chained (number_at 2) (Begins (Spells u16)) (Refuses u16) (λ number. behind_id_leaf number) _ _ (shapes u16)
    (λ number. behind_agrees number)

pub one_id : NoTwoValues IsId
one_id = one_value id_at IsId NoId ids_agree
