-- The definition of primitive types, restated in other words.
use Rattle.std.specs.Prelude.{◌≡◌, ◌<◌, ℕ, Ok, Err}
use Rattle.pdb_base.specs.Refusal.{Refusal, type_not_found}
use Rattle.pdb_values.specs.declared.primitive.PrimitiveType.{PrimitiveType}
use Rattle.pdb_values.specs.Primitive.{first_record, primitive_type}

-- One index below 0x1000 stands for the type, and no other does.
pub record HasOneIndex (type : PrimitiveType) : Type 0 where
  pub index : ℕ
  pub below : index < first_record
  pub stands : primitive_type index ≡ Ok type
  pub only : (other : ℕ) → other < first_record → primitive_type other ≡ Ok type → other ≡ index

-- If an index stands for no type, it is refused with `type_not_found` and that index.
abbrev pub IsRefusedByIndex : ℕ → Type 0
IsRefusedByIndex index = (e : Refusal) → primitive_type index ≡ Err e → e ≡ type_not_found index
