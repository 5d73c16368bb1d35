-- The word of 16 bits that says properties of a class, a union or an enumeration. Its parts are in this order
-- from the lowest bit on, as in `CV_prop_t` of Microsoft's cvinfo.h.
use Rattle.std.specs.Prelude.{ℕ, Bool}
use Rattle.pdb_base.specs.Bits.{bits, is_bit_set}

-- whether the members of the type are packed
abbrev pub packed : ℕ → Bool
packed word = is_bit_set word 0

-- whether the type has constructors or destructors
abbrev pub constructors : ℕ → Bool
constructors word = is_bit_set word 1

-- whether the type has overloaded operators
abbrev pub overloaded_operators : ℕ → Bool
overloaded_operators word = is_bit_set word 2

-- whether the type is nested in another type
abbrev pub is_nested_type : ℕ → Bool
is_nested_type word = is_bit_set word 3

-- whether other types are nested in the type
abbrev pub contains_nested_types : ℕ → Bool
contains_nested_types word = is_bit_set word 4

-- whether the type overloads assignment
abbrev pub overloaded_assignment : ℕ → Bool
overloaded_assignment word = is_bit_set word 5

-- whether the type has casting methods
abbrev pub overloaded_casting : ℕ → Bool
overloaded_casting word = is_bit_set word 6

-- whether the type is only declared here and another record defines it
abbrev pub forward_reference : ℕ → Bool
forward_reference word = is_bit_set word 7

-- whether the type is defined in a scope of its own
abbrev pub scoped_definition : ℕ → Bool
scoped_definition word = is_bit_set word 8

-- whether the name is followed by a second one
abbrev pub has_unique_name : ℕ → Bool
has_unique_name word = is_bit_set word 9

-- whether no class may derive from the type
abbrev pub sealed : ℕ → Bool
sealed word = is_bit_set word 10

-- the kind of homogeneous aggregate of floats, 2 bits
abbrev pub hfa : ℕ → ℕ
hfa word = bits word 11 2

-- whether the type is intrinsic
abbrev pub intrinsic_type : ℕ → Bool
intrinsic_type word = is_bit_set word 13

-- the kind of type of the component model that it is, 2 bits
abbrev pub mocom : ℕ → ℕ
mocom word = bits word 14 2
