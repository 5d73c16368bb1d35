-- The definitions that a definition needs by value, so that they have to be declared before it.
use Rattle.std.specs.Prelude.{ℕ, zero, suc, List, [], ◌∷◌, ◌++◌, map, Option, Some, None, Ok, Err}
use Rattle.std.specs.Option.{option_to_list}
use Rattle.pdb_base.specs.Answer.{Answer, ◌>>=◌}
use Rattle.pdb_base.specs.declared.index.TypeIndex.{TypeIndex}
use Rattle.pdb_tpi.specs.Table.{Table}
use Rattle.pdb_values.specs.TypeValue.{TypeValue, PlainValue, plain, array, modifier, bitfield, base_class, member}
use Rattle.pdb_values.specs.TypeValue.{virtual_base_class}
use Rattle.pdb_types.specs.declared.layout.ClassBody.{ClassBody}
use Rattle.pdb_types.specs.declared.part.TheConstants.{MOST_WITHIN}
use Rattle.pdb_types.specs.Definition.{definition_by}
use Rattle.pdb_types.specs.Layout.{class_at, records_of}
use Rattle.pdb_types.specs.TypeAt.{type_at}

-- the numbers of indexes
abbrev pub numbers : List TypeIndex → List ℕ
numbers indexes = map (λ index. index.0) indexes

-- the type that a modifier modifies, or whose bits a bit field takes
abbrev pub plain_inner : PlainValue → Option TypeIndex
plain_inner (modifier type) = Some type.underlying_type
plain_inner (bitfield type) = Some type.underlying_type
plain_inner value = None

-- the type that is within a type by value: the same, or that of the elements of an array
abbrev pub inner_type : TypeValue → Option TypeIndex
inner_type (plain value) = plain_inner value
inner_type (array value) = Some value.element_type
inner_type value = None

-- the definition of the type of an index, or the one that `held` says of the type within it
abbrev pub held_by : (ℕ → Answer (Option ℕ)) → Table → ℕ → TypeValue → Option TypeIndex → Answer (Option ℕ)
held_by held table index value (Some inner) = held inner.0
held_by held table index value None = Ok (definition_by table index value)

-- the definition of a type or of what is within it, along fewer types than the first argument
unfoldable pub held_along : ℕ → Table → ℕ → Answer (Option ℕ)
held_along zero table index = Ok None
held_along (suc most) table index =
    type_at table index >>= λ value. held_by (held_along most table) table index value (inner_type value)

-- The definition that a value of the type of an index has in it: that of the type, or of the elements of an array, of
-- the type that a modifier modifies or whose bits a bit field takes, through at most 63 such types.
unfoldable pub held_definition : Table → ℕ → Answer (Option ℕ)
held_definition table index = held_along MOST_WITHIN table index

-- the type of which a class has a value in it, by a record without a list
abbrev pub plain_part : PlainValue → Option TypeIndex
plain_part (base_class class) = Some class.base_class
plain_part (virtual_base_class class) = Some class.base_class
plain_part (member value) = Some value.field_type
plain_part value = None

-- the type of which a class has a value in it, by a record in its list of fields: a base class, virtual or not, or the
-- type of a data member
abbrev pub part_type : TypeValue → Option TypeIndex
part_type (plain value) = plain_part value
part_type value = None

-- the definition that a class needs for a type, if it has a value of one
abbrev pub need_for : Table → Option TypeIndex → Answer (Option ℕ)
need_for table (Some type) = held_definition table type.0
need_for table None = Ok None

-- the definition that a class needs by a record in its list of fields
unfoldable pub need_of : Table → TypeValue → Answer (Option ℕ)
need_of table value = need_for table (part_type value)

-- definitions, with one more if there is one
abbrev pub with_need : List ℕ → Answer (Option ℕ) → Answer (List ℕ)
with_need found need = need >>= λ one. Ok (found ++ option_to_list one)

-- definitions, followed by those that a class needs by records, in order, or the first fault among these
abbrev pub with_needs : Table → List ℕ → List TypeValue → Answer (List ℕ)
with_needs table found [] = Ok found
with_needs table found (value ∷ values) =
    with_need found (need_of table value) >>= λ more. with_needs table more values

-- the definitions that a class or a union needs that says this of it; another type needs none
abbrev pub body_needs : Table → Option ClassBody → Answer (List ℕ)
body_needs table (Some body) = records_of table body.list >>= with_needs table []
body_needs table None = Ok []

-- the definitions that the type of an index needs by value, in the order of its records
unfoldable pub needs_of : Table → ℕ → Answer (List ℕ)
needs_of table index = class_at table index >>= body_needs table

-- definitions, or none if a fault keeps from knowing them
abbrev pub if_known : Answer (List ℕ) → List ℕ
if_known (Ok needs) = needs
if_known (Err refusal) = []

-- the definitions that the type of an index needs, or none if these can't be read
unfoldable pub readable_needs : Table → ℕ → Answer (List ℕ)
readable_needs table index = Ok (if_known (needs_of table index))
