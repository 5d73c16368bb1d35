-- What the records of classes, unions and enumerations say of their names.
use Rattle.std.specs.Prelude.{ℕ, Bool, false, List, Option, Some, None}
use Rattle.std.specs.Option.{option_map, option_map_or}
use Rattle.std.specs.Str.{bytes_eq}
use Rattle.pdb_flags.specs.TypeProperties.{forward_reference}
use Rattle.pdb_values.specs.Text.{text_bytes}
use Rattle.pdb_values.specs.TypeValue.{TypeValue, PlainValue, plain, class, union, enumeration}
use Rattle.pdb_types.specs.declared.declaration.Declaration.{Declaration}
use Rattle.pdb_types.specs.declared.type_name.TypeName as code
use Rattle.pdb_types.specs.declared.type_name.TypeName.TheVariants as names

-- the properties and the names of a class, a union or an enumeration
pub record Declared : Type 0 where
  pub properties : ℕ
  pub name : List ℕ
  pub unique_name : Option (List ℕ)

-- what a type without a list says of its name
abbrev pub plain_declaration : PlainValue → Option Declared
plain_declaration (class value) = Some (record
    { properties = value.properties; name = value.name; unique_name = value.unique_name })
plain_declaration (union value) = Some (record
    { properties = value.properties; name = value.name; unique_name = value.unique_name })
plain_declaration (enumeration value) = Some
    (record { properties = value.properties; name = value.name; unique_name = value.unique_name })
plain_declaration value = None

-- what a class, a union or an enumeration says of its name
abbrev pub declaration_of : TypeValue → Option Declared
declaration_of (plain value) = plain_declaration value
declaration_of value = None

-- the value of a `Declaration`
abbrev pub declaration_value : Declaration → Declared
declaration_value declaration = record {
  properties = declaration.properties;
  name = text_bytes declaration.name;
  unique_name = option_map text_bytes declaration.unique_name;
}

-- whether the type is only declared, and defined by another record
abbrev pub is_forward : Declared → Bool
is_forward declared = forward_reference declared.properties

-- a name of a class, a union or an enumeration: the one that the source gives it, or the decorated one
pub data TypeName : Type 0 where
  source_name : List ℕ → TypeName
  decorated_name : List ℕ → TypeName

-- the value of the code's `TypeName`
abbrev pub type_name : code.TypeName → TypeName
type_name (names.Source text) = source_name text.now
type_name (names.Decorated text) = decorated_name text.now

-- the bytes of a name
abbrev pub type_name_bytes : TypeName → List ℕ
type_name_bytes (source_name text) = text
type_name_bytes (decorated_name text) = text

-- whether a type has a name
abbrev pub bears : TypeName → Declared → Bool
bears (source_name text) declared = bytes_eq declared.name text
bears (decorated_name text) declared = option_map_or (λ own. bytes_eq own text) declared.unique_name false

-- the name by which the definition of a type is looked for: the unique name if there is one, and else the name
abbrev pub sought_name : Declared → TypeName
sought_name declared = option_map_or (λ own. decorated_name own) declared.unique_name (source_name declared.name)
