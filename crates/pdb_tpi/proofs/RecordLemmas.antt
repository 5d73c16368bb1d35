-- A primitive type is no list: its index says it, or is refused by name.
use Rattle.std.proofs.Common.{◌≡◌, ◌≢◌, ◌≤◌, ℕ, List, refl, subst, Result, Ok, Err, IfOk}
use Rattle.std.proofs.lemmas.Bool.{le-ltb}
use Rattle.pdb_base.specs.declared.error.Error.{Error}
use Rattle.pdb_base.specs.Refusal.{Refusal, out_of_memory, type_not_found}
use Rattle.pdb_base.specs.Answer.{Gives}
use Rattle.pdb_base.proofs.lemmas.Collected.{bind_err, bind_ok, ok_is}
use Rattle.pdb_values.specs.declared.type_data.TypeData.{TypeData}
use Rattle.pdb_values.specs.Primitive.{first_record, primitive_type}
use Rattle.pdb_values.specs.TypeValue as values
use Rattle.pdb_values.specs.TypeView.{primitive_of, type_value}
use Rattle.pdb_values.proofs.PrimitiveLemmas.{is_refused_by_index}
use Rattle.pdb_records.specs.Short.{IsShort}
use Rattle.pdb_records.specs.Fields.{type_record}
pub use Rattle.pdb_records.proofs.MemoryLemmas.{gives_no_want, needs_fields, needs_behind}
use Rattle.pdb_tpi.specs.Record.{type_of}

pub refused_by_index : (index : ℕ) (e : Refusal) → primitive_of index ≡ Err e → e ≡ type_not_found index
unfolding primitive_of
refused_by_index index e h = is_refused_by_index index e
    (bind_err (primitive_type index) (λ type. values.plain (values.primitive type)) e h)

pub primitive_no_want : (index : ℕ) → primitive_of index ≢ Err out_of_memory
primitive_no_want index is = let named = refused_by_index index out_of_memory is in cc

pub primitive_short : (size index : ℕ) (result : Result TypeData Error) → Gives type_value result (primitive_of index)
    → IfOk result (λ value. IsShort size (type_value value))
unfolding primitive_of
primitive_short size index (Ok t) is =
    let read = bind_ok (primitive_type index) _ (type_value t) is in
    subst (IsShort size) (ok_is (values.plain (values.primitive read.0)) (type_value t) read.2) tt
primitive_short size index (Err e) is = tt

-- an item that is no primitive type is read as a record
pub reads_record : (index : ℕ) (bytes : List ℕ) → first_record ≤ index → type_record bytes ≡ type_of index bytes
unfolding type_of
reads_record index bytes above = rw (le-ltb index first_record above) refl
