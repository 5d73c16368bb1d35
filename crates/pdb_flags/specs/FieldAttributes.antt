-- The word of 16 bits that says who may access a member, and how a method is called. Its parts are in this
-- order from the lowest bit on, as in `CV_fldattr_t` of Microsoft's cvinfo.h.
use Rattle.std.specs.Prelude.{ℕ, Bool, ◌==◌, ◌||◌}
use Rattle.pdb_base.specs.Bits.{bits}

-- who may access the member, 2 bits
abbrev pub access : ℕ → ℕ
access word = bits word 0 2

-- how the method is called, 3 bits: one of the numbers of `CV_methodprop_e`
abbrev pub method_property : ℕ → ℕ
method_property word = bits word 2 3

-- the number of a virtual method that overrides one of a base class
abbrev pub virtual : ℕ
virtual = 1

-- the number of a static method, which is called without an object
abbrev pub static : ℕ
static = 2

-- the number of a virtual method that overrides none and so introduces an entry in
-- the table of virtual functions
abbrev pub intro : ℕ
intro = 4

-- the number of a virtual method that overrides one of a base class and has no body
abbrev pub pure_virtual : ℕ
pure_virtual = 5

-- the number of a virtual method that introduces an entry and has no body
abbrev pub pure_intro : ℕ
pure_intro = 6

-- whether the method is virtual, and neither pure nor introduces an entry
abbrev pub is_virtual : ℕ → Bool
is_virtual word = method_property word == virtual

-- whether the method is static
abbrev pub is_static : ℕ → Bool
is_static word = method_property word == static

-- whether the method is pure virtual and introduces no entry
abbrev pub is_pure_virtual : ℕ → Bool
is_pure_virtual word = method_property word == pure_virtual

-- whether the method introduces an entry, pure or not; the place of the entry is then in its record
abbrev pub is_intro_virtual : ℕ → Bool
is_intro_virtual word = method_property word == intro || method_property word == pure_intro
