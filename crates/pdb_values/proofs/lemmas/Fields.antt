-- The values of a field list, one after another, are a list.
use Rattle.std.proofs.Common.{◌≡◌, ◌==◌, false, List, [], ◌∷◌, length, refl, ap}
use Rattle.std.proofs.lemmas.Bool.{false≢true}
use Rattle.pdb_values.specs.declared.type_data.TypeData.{TypeData}
use Rattle.pdb_values.specs.Items.{HasField}
use Rattle.pdb_values.specs.TypeView.{fields_value}
use Rattle.pdb_values.specs.TypeValue.{TypeValue, Fields, no_field, first_field, as_fields, values_in}

-- what is made of a list has its values
pub listed : (values : List TypeValue) → values_in (as_fields values) ≡ values
listed [] = refl
listed (value ∷ values) = ap (λ (rest : List TypeValue). value ∷ rest) (listed values)

-- and is made of them
pub unlisted : (fields : Fields) → as_fields (values_in fields) ≡ fields
unlisted no_field = refl
unlisted (first_field value fields) = ap (λ (rest : Fields). first_field value rest) (unlisted fields)

-- where there are values, there is a field
pub field_there : (types : List TypeData) → false ≡ (length types == 0) → HasField (fields_value types)
field_there [] some = absurd (false≢true some)
field_there (type ∷ types) some = tt
