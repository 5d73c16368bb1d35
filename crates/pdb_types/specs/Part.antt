-- The part of a base class that lies in a class derived from it: all of a class without virtual bases, and else what
-- lies before its virtual bases, which the derived class holds elsewhere.
use Rattle.std.specs.Prelude.{◌≡◌, ℕ, ◌<◌, zero, suc, max, min, Bool, nat_le, if◌then◌else◌, List, [], ◌∷◌, length}
use Rattle.std.specs.Prelude.{Option, Some, None, Ok}
use Rattle.std.specs.List.{list_any}
use Rattle.pdb_base.specs.Answer.{Answer, ◌>>=◌}
use Rattle.pdb_tpi.specs.Table.{Table}
use Rattle.pdb_types.specs.declared.extent.Extent.{Extent}
use Rattle.pdb_types.specs.declared.extent.Extent.TheVariants.{Bytes}
use Rattle.pdb_types.specs.declared.layout.ClassBody.{ClassBody}
use Rattle.pdb_types.specs.declared.part.Base.{Base}
use Rattle.pdb_types.specs.declared.part.Outline.{Outline}
use Rattle.pdb_types.specs.declared.part.TheConstants.{MOST_WITHIN}
use Rattle.pdb_types.specs.Extent.{bits_of}
use Rattle.pdb_types.specs.FieldPlace.{FieldRole, PlaceValue, base, is_virtual_role}
use Rattle.pdb_types.specs.Gap.{bytes_touched}
use Rattle.pdb_types.specs.Layout.{ClassLayout, FieldValue, body_fields, class_at, field_values_in, records_of}
use Rattle.pdb_types.specs.Size.{Sizes}

-- ---- what a class says of its part

-- the base class that a field is, if it is one
abbrev pub base_by_role : FieldRole → FieldValue → Option Base
base_by_role base field = Some (record
    { class = field.place.field_type; offset = field.place.offset; extent = field.extent })
base_by_role role field = None

abbrev pub base_of : FieldValue → Option Base
base_of field = base_by_role field.place.role field

-- the byte behind those of which a field that begins at an offset has bits
abbrev pub extent_end : ℕ → Extent → ℕ
extent_end offset extent = (bytes_touched (bits_of offset extent)).end

-- the byte behind a field that is no base class
abbrev pub own_field_end : FieldRole → FieldValue → ℕ
own_field_end base field = 0
own_field_end role field = extent_end field.place.offset field.extent

-- the byte behind all fields that are no base classes
abbrev pub own_end : List FieldValue → ℕ
own_end [] = 0
own_end (field ∷ fields) = max (own_field_end field.place.role field) (own_end fields)

-- the one of two base classes that begins later, or whose record comes later if they begin at one place
abbrev pub later_base : Option Base → Option Base → Option Base
later_base last None = last
later_base None (Some next) = Some next
later_base (Some last) (Some next) = if nat_le last.offset next.offset then Some next else Some last

-- the last of a base class and those of fields
abbrev pub last_base : Option Base → List FieldValue → Option Base
last_base last [] = last
last_base last (field ∷ fields) = last_base (later_base last (base_of field)) fields

-- whether a field is a pointer to a table of virtual bases
abbrev pub has_virtual_role : FieldValue → Bool
has_virtual_role field = is_virtual_role field.place.role

-- what a class of a size with these fields says of its part
abbrev pub outline_of : ℕ → List FieldValue → Outline
outline_of size fields = record {
  size = size;
  is_virtual = list_any has_virtual_role fields;
  own_end = own_end fields;
  last_base = last_base None fields;
}

abbrev pub outline_if : Table → Option ClassBody → Answer (Option Outline)
outline_if table (Some body) = body_fields table body >>= λ fields. Ok (Some (outline_of body.size fields))
outline_if table None = Ok None

-- what the class of an index says of its part, in which each field is as large as its type
unfoldable pub outline_at : Table → ℕ → Answer (Option Outline)
outline_at table index = class_at table index >>= outline_if table

-- ---- the part

-- the bytes of a part, if it is known
abbrev pub part_extent : Extent → Option ℕ → Extent
part_extent extent (Some size) = Bytes size
part_extent extent None = extent

-- the last base class of a class with virtual bases
abbrev pub base_within : Outline → Option Base
base_within outline = if outline.is_virtual then outline.last_base else None

-- the byte behind the part of a class whose last base class ends there
abbrev pub part_before : Outline → ℕ → ℕ
part_before outline end =
    if outline.is_virtual then min outline.size (max outline.own_end end) else outline.size

-- The part of a class whose last base class is this one: up to the end of its last field, if `parts` says how far that
-- base class goes.
abbrev pub part_with : Sizes → Outline → Option Base → Answer (Option ℕ)
part_with parts outline (Some last) = parts last.class.0
    >>= λ part. Ok (Some (part_before outline (extent_end last.offset (part_extent last.extent part))))
part_with parts outline None = Ok (Some (part_before outline 0))

-- the part of a class that says this of it, which only a class or a union that is defined does
abbrev pub part_from : Sizes → Option Outline → Answer (Option ℕ)
part_from parts (Some outline) = part_with parts outline (base_within outline)
part_from parts None = Ok None

-- the part of the class of an index, if `parts` says those of its base classes
abbrev pub one_part : Table → Sizes → ℕ → Answer (Option ℕ)
one_part table parts index = outline_at table index >>= part_from parts

-- Parts are those of the classes of a table: each goes up to the end of its last field, of which a base class has its
-- own part.
abbrev pub AreParts : Table → Sizes → Type 0
AreParts table parts = (index : ℕ) → parts index ≡ one_part table parts index

-- The last base class of each class with virtual bases is less deep than the class: no class is its own base.
abbrev pub AreDepths : Table → (ℕ → ℕ) → Type 0
AreDepths table depth = (index : ℕ) (outline : Outline) (last : Base) → outline_at table index ≡ Ok (Some outline)
    → base_within outline ≡ Some last → depth last.class.0 < depth index

-- the part of a class, along at most as many base classes as the first argument
unfoldable pub part_along : ℕ → Table → ℕ → Answer (Option ℕ)
part_along zero table index = Ok None
part_along (suc most) table index = one_part table (part_along most table) index

-- the part of a class
unfoldable pub class_part : Table → ℕ → Answer (Option ℕ)
class_part table index = part_along MOST_WITHIN table index

-- ---- the layout

-- a field as long as its part, if that is known
abbrev pub with_part : FieldValue → Option ℕ → FieldValue
with_part field part = record { place = field.place; extent = part_extent field.extent part }

-- a field that is this base class, which is as long as its part, or another field
abbrev pub field_by_base : Table → FieldValue → Option Base → Answer FieldValue
field_by_base table field (Some class) = class_part table class.class.0 >>= λ part. Ok (with_part field part)
field_by_base table field None = Ok field

unfoldable pub field_there : Table → FieldValue → Answer FieldValue
field_there table field = field_by_base table field (base_of field)

-- fields, of which each base class is as long as its part
abbrev pub parted_fields : Table → List FieldValue → Answer (List FieldValue)
parted_fields table [] = Ok []
parted_fields table (field ∷ fields) = field_there table field >>= λ one. parted_fields table fields
    >>= λ more. Ok (one ∷ more)

-- The fields of a class as they lie in it. Only a class that has virtual bases has base classes that have some.
abbrev pub fields_there : Table → List FieldValue → Answer (List FieldValue)
fields_there table fields = if list_any has_virtual_role fields then parted_fields table fields else Ok fields

-- the layout of a class or a union that says this of it
abbrev pub body_layout : Table → ClassBody → Answer ClassLayout
body_layout table body = do
  records ← records_of table body.list
  stated ← field_values_in table records
  fields ← fields_there table stated
  Ok (record { index = body.index.0; size = body.size; records = length records; fields = fields })

-- the same if it is a class or a union
abbrev pub layout_from : Table → Option ClassBody → Answer (Option ClassLayout)
layout_from table (Some body) = body_layout table body >>= λ layout. Ok (Some layout)
layout_from table None = Ok None

-- the layout of the type of an index: that of its definition, if it is a class or a union and has a definition
unfoldable pub layout_of_type : Table → ℕ → Answer (Option ClassLayout)
layout_of_type table index = class_at table index >>= layout_from table
