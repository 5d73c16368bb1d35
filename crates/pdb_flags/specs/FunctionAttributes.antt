-- The word of 16 bits that says how a function is called: the calling convention in the low byte, by the
-- numbers of `CV_call_e` in Microsoft's cvinfo.h, and above it the bits of `CV_funcattr_t`.
use Rattle.std.specs.Prelude.{ℕ, Bool}
use Rattle.pdb_base.specs.Bits.{bits, is_bit_set}

-- the number of the calling convention, 8 bits
abbrev pub calling_convention : ℕ → ℕ
calling_convention word = bits word 0 8

-- whether the function returns a user-defined type as C++ does
abbrev pub cxx_return_udt : ℕ → Bool
cxx_return_udt word = is_bit_set word 8

-- whether the function is a constructor
abbrev pub is_constructor : ℕ → Bool
is_constructor word = is_bit_set word 9

-- whether the function is a constructor of a class with virtual bases
abbrev pub is_constructor_with_virtual_bases : ℕ → Bool
is_constructor_with_virtual_bases word = is_bit_set word 10
