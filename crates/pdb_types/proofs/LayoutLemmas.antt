-- The fields of a class, one after another.
use Rattle.std.proofs.Common.{◌≡◌, ◌⊎◌, inl, inr, ℕ, suc, ◌+◌, ◌<◌, List, [], ◌∷◌, ◌++◌, length, get_or, drop, map}
use Rattle.std.proofs.Common.{Bool, ◌||◌}
use Rattle.std.proofs.Common.{refl, ap, Option, Ok, Err, add-one}
use Rattle.std.specs.List.{cons_option, list_any}
use Rattle.std.proofs.Math.Seq.{drop-cons}
use Rattle.pdb_base.specs.Answer.{Answer, ◌>>=◌}
use Rattle.pdb_base.specs.Refusal.{Refusal, refusal_of}
use Rattle.pdb_base.specs.declared.error.Error.{Error}
use Rattle.pdb_base.specs.declared.error.Error.TheVariants.{OutOfMemory}
use Rattle.pdb_tpi.specs.Table.{Table}
use Rattle.pdb_values.specs.declared.type_data.TypeData.{TypeData}
use Rattle.pdb_values.specs.TypeValue.{TypeValue}
use Rattle.pdb_values.specs.TypeView.{type_value}
use Rattle.pdb_types.specs.declared.layout.LayoutField.{LayoutField}
use Rattle.pdb_types.specs.Layout.{FieldValue, field_of, field_value, field_values_in, is_virtual_field}
use Rattle.pdb_types.specs.Layout.{with_field}
use Rattle.pdb_types.specs.Part.{has_virtual_role}

-- fields behind others
abbrev pub behind : List FieldValue → Answer (List FieldValue) → Answer (List FieldValue)
behind found fields = fields >>= λ more. Ok (found ++ more)

-- the fields of the records so far were found
pub record AreFieldsTo (table : Table) (records rest : List TypeValue) (found : List FieldValue) : Type 0 where
  pub is : field_values_in table records ≡ behind found (field_values_in table rest)

-- the fields from an item on
pub items_from : (items : List TypeData) (i : ℕ) (item : TypeData) → i < length items → get_or items i item ≡ item
    → map type_value (drop i items) ≡ type_value item ∷ map type_value (drop (i + 1) items)
items_from items i item within here =
    let next : drop i items ≡ item ∷ drop (i + 1) items =
    rw (add-one, drop-cons items i item within) (ap (λ (x : TypeData). x ∷ drop (suc i) items) here) in
    ap (map type_value) next

abbrev next_fields : Answer (Option FieldValue) → Answer (List FieldValue) → Answer (List FieldValue)
next_fields field fields = field >>= λ one. fields >>= λ more. Ok (cons_option one more)

next_is : (table : Table) (records : List TypeValue) (items : List TypeData) (i : ℕ) (item : TypeData)
    (found : List FieldValue) (field : Answer (Option FieldValue))
    → AreFieldsTo table records (map type_value (drop i items)) found → i < length items → get_or items i item ≡ item
    → field_of table (type_value item) ≡ field
    → field_values_in table records ≡ behind found (next_fields field
    (field_values_in table (map type_value (drop (i + 1) items))))
next_is table records items i item found field so_far within here is =
    rw (so_far.is, items_from items i item within here, is) refl

refused_one : (found : List FieldValue) (field : Answer (Option FieldValue)) (refusal : Refusal)
    → with_field found field ≡ Err refusal → field ≡ Err refusal
refused_one found (Ok field) refusal is = absurd cc
refused_one found (Err other) refusal is = cc

-- a record that is refused
pub fields_refused : (table : Table) (records : List TypeValue) (items : List TypeData) (i : ℕ) (item : TypeData)
    (found : List FieldValue) (e : Error)
    → AreFieldsTo table records (map type_value (drop i items)) found → i < length items → get_or items i item ≡ item
    → (with_field found (field_of table (type_value item)) ≡ Err (refusal_of e)) ⊎ (e ≡ OutOfMemory)
    → (field_values_in table records ≡ Err (refusal_of e)) ⊎ (e ≡ OutOfMemory)
fields_refused table records items i item found e so_far within here (inl is) =
    inl (next_is table records items i item found (Err (refusal_of e)) so_far within here
    (refused_one found (field_of table (type_value item)) (refusal_of e) is))
fields_refused table records items i item found e so_far within here (inr memory) = inr memory

-- ---- virtual bases

-- the same of fields and of their values
pub any_value : (fields : List LayoutField)
    → list_any has_virtual_role (map field_value fields) ≡ list_any is_virtual_field fields
any_value [] = refl
any_value (field ∷ fields) = ap (λ (b : Bool). is_virtual_field field || b) (any_value fields)
