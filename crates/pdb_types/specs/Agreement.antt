-- Whether types of two tables agree: whether they are alike, and the types within them agree.
use Rattle.std.specs.Prelude.{◌≡◌, ℕ, zero, suc, ◌+◌, ◌*◌, ◌==◌, Bool, true, false, ◌&&◌, ◌||◌, nat_lt, if◌then◌else◌}
use Rattle.std.specs.Prelude.{List, [], ◌∷◌, ◌++◌, length, codes, Option, Some, None, Ok, Err}
use Rattle.std.specs.List.{All, Contains}
use Rattle.std.specs.Option.{option_eq, option_map_or, option_to_list}
use Rattle.std.specs.Bool.{beq, nat_eq}
use Rattle.std.specs.Str.{bytes_eq}
use Rattle.pdb_base.specs.Answer.{Answer}
use Rattle.pdb_base.specs.declared.index.TypeIndex.{TypeIndex}
use Rattle.pdb_tpi.specs.Table.{Table}
use Rattle.pdb_values.specs.Array.{ArrayValue}
use Rattle.pdb_values.specs.TableShape.{VirtualTableShapeValue}
use Rattle.pdb_values.specs.declared.bitfield.BitfieldType.{BitfieldType}
use Rattle.pdb_values.specs.declared.class.ClassKind.{ClassKind}
use Rattle.pdb_values.specs.declared.class.ClassKind.TheVariants.{Class, Struct, Interface}
use Rattle.pdb_values.specs.declared.function.MemberFunctionType.{MemberFunctionType}
use Rattle.pdb_values.specs.declared.function.ProcedureType.{ProcedureType}
use Rattle.pdb_values.specs.declared.modifier.ModifierType.{ModifierType}
use Rattle.pdb_values.specs.declared.pointer.PointerType.{PointerType}
use Rattle.pdb_values.specs.TypeValue.{TypeValue, PlainValue, plain, array, argument_list, pointer, modifier, bitfield}
use Rattle.pdb_values.specs.TypeValue.{procedure, member_function, virtual_table_shape, class, union, enumeration}
use Rattle.pdb_types.specs.declared.agreement.TypePair.{TypePair}
use Rattle.pdb_types.specs.Declaration.{Declared, declaration_of}
use Rattle.pdb_types.specs.TypeAt.{type_at}

-- ---- types that are alike

-- the keyword with which a class is declared
abbrev pub class_keyword : ClassKind → List ℕ
class_keyword Class = codes "class"
class_keyword Struct = codes "struct"
class_keyword Interface = codes "interface"

-- the keyword with which a type is declared, or no text
abbrev pub plain_keyword : PlainValue → List ℕ
plain_keyword (class value) = class_keyword value.kind
plain_keyword (union value) = codes "union"
plain_keyword (enumeration value) = codes "enum"
plain_keyword value = []

abbrev pub keyword_of : TypeValue → List ℕ
keyword_of (plain value) = plain_keyword value
keyword_of value = []

-- whether two unique names are one; where one is missing, the names decide
abbrev pub one_name : Bool → Option (List ℕ) → Option (List ℕ) → Bool
one_name named (Some name) (Some other) = bytes_eq name other
one_name named (Some name) None = named
one_name named None other = named

-- whether two types have one name: one unique name if both have such names, and else one name
abbrev pub have_one_name : Declared → Declared → Bool
have_one_name one other = one_name (bytes_eq one.name other.name) one.unique_name other.unique_name

-- whether a type is declared with this keyword and this name
abbrev pub is_named_like : List ℕ → Declared → TypeValue → Bool
is_named_like keyword name value =
    option_map_or (λ other. bytes_eq keyword (keyword_of value) && have_one_name name other)
    (declaration_of value) false

-- whether a type is a pointer with the attributes of this one
abbrev pub plain_pointer_like : PointerType → PlainValue → Bool
plain_pointer_like one (pointer other) = one.attributes == other.attributes
plain_pointer_like one value = false

abbrev pub is_pointer_like : PointerType → TypeValue → Bool
is_pointer_like one (plain value) = plain_pointer_like one value
is_pointer_like one value = false

-- whether a type is one with these modifiers
abbrev pub plain_modified_like : ModifierType → PlainValue → Bool
plain_modified_like one (modifier other) = beq one.constant other.constant && beq one.volatile other.volatile
    && beq one.unaligned other.unaligned
plain_modified_like one value = false

abbrev pub is_modified_like : ModifierType → TypeValue → Bool
is_modified_like one (plain value) = plain_modified_like one value
is_modified_like one value = false

-- whether a type is an array with these dimensions
abbrev pub is_array_like : ArrayValue → TypeValue → Bool
is_array_like one (array other) = option_eq nat_eq one.stride other.stride && bytes_eq one.dimensions other.dimensions
is_array_like one value = false

-- whether a type is a bit field of these bits
abbrev pub plain_bit_field_like : BitfieldType → PlainValue → Bool
plain_bit_field_like one (bitfield other) = one.length == other.length && one.position == other.position
plain_bit_field_like one value = false

abbrev pub is_bit_field_like : BitfieldType → TypeValue → Bool
is_bit_field_like one (plain value) = plain_bit_field_like one value
is_bit_field_like one value = false

-- whether a type is that of a function that is called like this one
abbrev pub plain_function_like : ProcedureType → PlainValue → Bool
plain_function_like one (procedure other) = one.attributes == other.attributes
plain_function_like one value = false

abbrev pub is_function_like : ProcedureType → TypeValue → Bool
is_function_like one (plain value) = plain_function_like one value
is_function_like one value = false

-- whether a type is that of a method that is called like this one
abbrev pub plain_method_like : MemberFunctionType → PlainValue → Bool
plain_method_like one (member_function other) = one.attributes == other.attributes
    && one.this_adjustment == other.this_adjustment
plain_method_like one value = false

abbrev pub is_method_like : MemberFunctionType → TypeValue → Bool
is_method_like one (plain value) = plain_method_like one value
is_method_like one value = false

-- whether a type is this shape of a table of virtual functions
abbrev pub plain_shape_like : VirtualTableShapeValue → PlainValue → Bool
plain_shape_like one (virtual_table_shape other) = one.count == other.count && bytes_eq one.descriptors
    other.descriptors
plain_shape_like one value = false

abbrev pub is_shape_like : VirtualTableShapeValue → TypeValue → Bool
is_shape_like one (plain value) = plain_shape_like one value
is_shape_like one value = false

-- whether a type is a list of arguments
abbrev pub is_argument_list : TypeValue → Bool
is_argument_list (argument_list types) = true
is_argument_list value = false

-- whether a type is like this one, which has no list
abbrev pub is_plain_like : PlainValue → TypeValue → Bool
is_plain_like (pointer one) other = is_pointer_like one other
is_plain_like (modifier one) other = is_modified_like one other
is_plain_like (bitfield one) other = is_bit_field_like one other
is_plain_like (procedure one) other = is_function_like one other
is_plain_like (member_function one) other = is_method_like one other
is_plain_like (virtual_table_shape one) other = is_shape_like one other
is_plain_like value other = false

-- whether a type is like this one, which has no name
abbrev pub is_unnamed_like : TypeValue → TypeValue → Bool
is_unnamed_like (plain value) other = is_plain_like value other
is_unnamed_like (array one) other = is_array_like one other
is_unnamed_like (argument_list types) other = is_argument_list other
is_unnamed_like value other = false

-- Whether two types are alike, if the types within them are: a class, a union or an enumeration has the same name and
-- keyword, and another type is of the same kind with the same attributes.
unfoldable pub are_alike : TypeValue → TypeValue → Bool
are_alike one other = option_map_or (λ name. is_named_like (keyword_of one) name other) (declaration_of one)
    (is_unnamed_like one other)

-- ---- the types within types

-- the types by which a type without a list is made; one with a name goes by that
abbrev pub plain_within : PlainValue → List TypeIndex
plain_within (pointer type) = type.underlying_type ∷ option_to_list type.containing_class
plain_within (modifier type) = type.underlying_type ∷ []
plain_within (bitfield type) = type.underlying_type ∷ []
plain_within (procedure type) = type.argument_list ∷ option_to_list type.return_type
plain_within (member_function type) =
    type.return_type ∷ type.class_type ∷ type.argument_list ∷ option_to_list type.this_pointer_type
plain_within value = []

-- the types by which a type is made
unfoldable pub types_within : TypeValue → List TypeIndex
types_within (plain value) = plain_within value
types_within (array value) = value.element_type ∷ []
types_within (argument_list types) = types
types_within value = []

-- the pairs of the types of two lists of one length
abbrev pub zip_pairs : List TypeIndex → List TypeIndex → List TypePair
zip_pairs (first ∷ firsts) (second ∷ seconds) = record { first = first; second = second } ∷ zip_pairs firsts seconds
zip_pairs firsts seconds = []

-- the pairs of the types of two lists, if these are of one length
abbrev pub pairs_of : List TypeIndex → List TypeIndex → Option (List TypePair)
pairs_of firsts seconds = if length firsts == length seconds then Some (zip_pairs firsts seconds) else None

-- a type that can be read
abbrev pub readable : Answer TypeValue → Option TypeValue
readable (Ok value) = Some value
readable (Err refusal) = None

-- the pairs of types within two types that are alike
abbrev pub pairs_within : TypeValue → TypeValue → Option (List TypePair)
pairs_within one other = if are_alike one other then pairs_of (types_within one) (types_within other) else None

-- the same of types that may be unreadable, of which none is like another
abbrev pub readable_pairs : Option TypeValue → Option TypeValue → Option (List TypePair)
readable_pairs (Some one) (Some other) = pairs_within one other
readable_pairs (Some one) None = None
readable_pairs None other = None

-- The pairs of types within those of two indexes, if these are alike. A primitive type, whose index is below 0x1000, is
-- like itself alone.
unfoldable pub next_pairs : Table → Table → TypePair → Option (List TypePair)
next_pairs one other pair =
    if nat_lt pair.first.0 0x1000 || nat_lt pair.second.0 0x1000
    then (if pair.first.0 == pair.second.0 then Some [] else None)
    else readable_pairs (readable (type_at one pair.first.0)) (readable (type_at other pair.second.0))

-- ---- types that agree

-- whether the pairs behind this one agree and those within it, if there are any
abbrev pub agree_with : (List TypePair → Bool) → List TypePair → Option (List TypePair) → Bool
agree_with agree pairs (Some more) = agree (pairs ++ more)
agree_with agree pairs None = false

-- whether the types of all pairs agree, where at most so many pairs are read, with those of the types within them
unfoldable pub agree_along : ℕ → Table → Table → List TypePair → Bool
agree_along most one other [] = true
agree_along zero one other (pair ∷ pairs) = false
agree_along (suc most) one other (pair ∷ pairs) =
    agree_with (agree_along most one other) pairs (next_pairs one other pair)

-- how many pairs of types are read where so many are compared, with those within them: 64 for each of them, of at most
-- 1,048,576, and 4,096 more
abbrev pub most_read : ℕ → ℕ
most_read count = (if nat_lt count 0x10_0000 then count else 0x10_0000) * 64 + 4096

abbrev pub all_agree : Table → Table → Option (List TypePair) → Bool
all_agree one other (Some pairs) = agree_along (most_read (length pairs)) one other pairs
all_agree one other None = false

-- whether the types of two lists agree, one by one
unfoldable pub do_types_agree : Table → Table → List TypeIndex → List TypeIndex → Bool
do_types_agree one other firsts seconds = all_agree one other (pairs_of firsts seconds)

-- pairs, if there are any
abbrev pub pairs_if : Bool → List TypePair → Option (List TypePair)
pairs_if true pairs = Some pairs
pairs_if false pairs = None

-- pairs, with others behind them, if there are any
abbrev pub with_pairs : List TypePair → Option (List TypePair) → Option (List TypePair)
with_pairs pairs (Some more) = Some (pairs ++ more)
with_pairs pairs None = None

-- ---- what it means that types agree

-- The types of a pair are alike, and each pair of the types within them is among these pairs.
abbrev pub IsAgreed : Table → Table → List TypePair → TypePair → Type 0
IsAgreed one other all pair =
    (within : List TypePair) × (next_pairs one other pair ≡ Some within) × All (Contains all) within

-- These pairs are among some of which each is alike, with all pairs of the types within it among them.
abbrev pub Agree : Table → Table → List TypePair → Type 0
Agree one other pairs = (all : List TypePair) × All (Contains all) pairs × All (IsAgreed one other all) all

-- The types of two lists, which have one length, agree one by one.
abbrev pub AreAgreed : Table → Table → List TypeIndex → List TypeIndex → Type 0
AreAgreed one other firsts seconds =
    (pairs : List TypePair) × (pairs_of firsts seconds ≡ Some pairs) × Agree one other pairs
