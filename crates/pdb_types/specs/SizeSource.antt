-- What the record of a type says of its size in bytes, as the records of Microsoft's cvinfo.h do.
use Rattle.std.specs.Prelude.{ℕ, ◌-◌, ◌==◌, if◌then◌else◌, length, slice_get, Option, Some, None}
use Rattle.pdb_flags.specs.PointerAttributes as pointers
use Rattle.pdb_flags.specs.TypeProperties.{forward_reference}
use Rattle.pdb_values.specs.TypeValue.{TypeValue, PlainValue, plain, array, primitive, pointer, modifier, bitfield}
use Rattle.pdb_values.specs.TypeValue.{class, union, enumeration}
use Rattle.pdb_types.specs.declared.size_source.SizeSource.{SizeSource}
use Rattle.pdb_types.specs.declared.size_source.SizeSource.TheVariants.{Stated, SameAs, Unknown}
use Rattle.pdb_types.specs.PrimitiveSize.{primitive_size}

-- a size says itself, if it is known
abbrev pub if_known : Option ℕ → SizeSource
if_known (Some size) = Stated size
if_known None = Unknown

-- a size that isn't 0
abbrev pub unless_zero : ℕ → Option ℕ
unless_zero size = if size == 0 then None else Some size

-- a class, a union or an enumeration with these properties; a forward reference says nothing of its size
abbrev pub size_unless_forward : ℕ → SizeSource → SizeSource
size_unless_forward properties source = if forward_reference properties then Unknown else source

-- What says the size of a type without a list. A pointer has the size that its attributes state. An
-- enumeration is as large as its underlying type, a bit field as the type whose bits it takes, and a type with
-- a modifier as the one without. A function has no size.
abbrev pub plain_source : PlainValue → SizeSource
plain_source (primitive type) = if_known (primitive_size type)
plain_source (pointer type) = if_known (unless_zero (pointers.pointer_size type.attributes))
plain_source (modifier type) = SameAs type.underlying_type
plain_source (bitfield type) = SameAs type.underlying_type
plain_source (class value) = size_unless_forward value.properties (Stated value.size)
plain_source (union value) = size_unless_forward value.properties (Stated value.size)
plain_source (enumeration value) = size_unless_forward value.properties (SameAs value.underlying_type)
plain_source value = Unknown

-- What says the size of a type. That of an array is its last dimension, which counts the whole array. A list
-- has no size.
abbrev pub size_source : TypeValue → SizeSource
size_source (plain value) = plain_source value
size_source (array value) = if_known (slice_get value.dimensions (length value.dimensions - 1))
size_source value = Unknown
