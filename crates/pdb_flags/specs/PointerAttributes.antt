-- The word of 32 bits that says what a pointer is. Its parts are in this order from the lowest bit on, as in
-- `lfPointerAttr` of Microsoft's cvinfo.h.
use Rattle.std.specs.Prelude.{ℕ, Bool, ◌==◌, ◌||◌, ◌&&◌, nat_le, if◌then◌else◌, Option, Some, None}
use Rattle.pdb_base.specs.Bits.{bits, is_bit_set}
use Rattle.pdb_flags.specs.declared.pointer_kind.PointerKind.TheVariants.{Near32, Far32, Ptr64}
use Rattle.pdb_flags.specs.declared.pointer_mode.PointerMode.TheVariants.{LValueReference, Member, MemberFunction}
use Rattle.pdb_flags.specs.declared.pointer_mode.PointerMode.TheVariants.{RValueReference}
use Rattle.pdb_flags.specs.PointerNumbers.{pointer_kind_number, mode_number}

-- the number of the pointer's kind, 5 bits
abbrev pub kind_in : ℕ → ℕ
kind_in word = bits word 0 5

-- the number of the pointer's mode, 3 bits
abbrev pub mode_in : ℕ → ℕ
mode_in word = bits word 5 3

-- whether the pointer is of the flat model of 32 bits
abbrev pub is_flat_32 : ℕ → Bool
is_flat_32 word = is_bit_set word 8

-- whether the pointer is volatile
abbrev pub is_volatile : ℕ → Bool
is_volatile word = is_bit_set word 9

-- whether the pointer is const
abbrev pub is_const : ℕ → Bool
is_const word = is_bit_set word 10

-- whether the pointer need not be aligned
abbrev pub is_unaligned : ℕ → Bool
is_unaligned word = is_bit_set word 11

-- whether the pointer is the only way to reach what it points to
abbrev pub is_restrict : ℕ → Bool
is_restrict word = is_bit_set word 12

-- the size in bytes that the word states, 6 bits
abbrev pub stated_size : ℕ → ℕ
stated_size word = bits word 13 6

-- whether the pointer is one of the component model
abbrev pub is_mocom : ℕ → Bool
is_mocom word = is_bit_set word 19

-- the highest number of a kind
abbrev pub last_kind : ℕ
last_kind = 0x0c

-- the highest number of a mode
abbrev pub last_mode : ℕ
last_mode = 4

-- whether the word has a kind and a mode that exist
abbrev pub is_pointer_word : ℕ → Bool
is_pointer_word word = nat_le (kind_in word) last_kind && nat_le (mode_in word) last_mode

-- the word, if it has a kind and a mode that exist
abbrev pub pointer_word : ℕ → Option ℕ
pointer_word word = if is_pointer_word word then Some word else None

-- the size in bytes of a pointer of this kind if its word states none
abbrev pub usual_size : ℕ → ℕ
usual_size kind = if kind == pointer_kind_number Near32 || kind == pointer_kind_number Far32 then 4
    else if kind == pointer_kind_number
    Ptr64 then 8 else 0

-- the size of the pointer in bytes
abbrev pub pointer_size : ℕ → ℕ
pointer_size word = if stated_size word == 0 then usual_size (kind_in word) else stated_size word

-- whether the pointer points to a data member or a method of a class
abbrev pub pointer_to_member : ℕ → Bool
pointer_to_member word = mode_in word == mode_number Member || mode_in word == mode_number MemberFunction

-- whether the pointer is a reference of either kind
abbrev pub is_reference : ℕ → Bool
is_reference word = mode_in word == mode_number LValueReference || mode_in word == mode_number RValueReference
