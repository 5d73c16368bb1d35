-- The flags of a section, each by the mask that the PE format defines for it.
use Rattle.std.specs.Prelude.{ℕ, Bool, ◌==◌, not, bit_and}

-- whether a word has a bit of a mask
abbrev pub has_mask : ℕ → ℕ → Bool
has_mask word mask = not (bit_and word mask == 0)

-- whether the section holds code
abbrev pub executable : ℕ → Bool
executable word = has_mask word 0x00000020

-- whether the section holds data that has values from the start
abbrev pub initialized_data : ℕ → Bool
initialized_data word = has_mask word 0x00000040

-- whether the section holds data that has no values at the start
abbrev pub uninitialized_data : ℕ → Bool
uninitialized_data word = has_mask word 0x00000080

-- whether the bit reserved for other contents is set
abbrev pub other : ℕ → Bool
other word = has_mask word 0x00000100

-- whether the section holds comments or other information for the linker
abbrev pub info : ℕ → Bool
info word = has_mask word 0x00000200

-- whether the section is left out of the image
abbrev pub remove : ℕ → Bool
remove word = has_mask word 0x00000800

-- whether the section holds COMDAT data
abbrev pub comdat : ℕ → Bool
comdat word = has_mask word 0x00001000

-- whether the bits that defer speculative exceptions are reset for the section
abbrev pub defer_speculative_exceptions : ℕ → Bool
defer_speculative_exceptions word = has_mask word 0x00004000

-- whether the section holds data that is reached by the global pointer
abbrev pub global_pointer_relative : ℕ → Bool
global_pointer_relative word = has_mask word 0x00008000

-- whether the bit for memory that may be given back is set
abbrev pub purgeable : ℕ → Bool
purgeable word = has_mask word 0x00020000

-- whether the bit for memory that is kept in place is set
abbrev pub locked : ℕ → Bool
locked word = has_mask word 0x00040000

-- whether the bit for memory that is loaded ahead is set
abbrev pub preload : ℕ → Bool
preload word = has_mask word 0x00080000

-- whether the section has more relocations than their number in the header can express
abbrev pub lnk_nreloc_ovfl : ℕ → Bool
lnk_nreloc_ovfl word = has_mask word 0x01000000

-- whether the section may be discarded when it isn't needed any more
abbrev pub discardable : ℕ → Bool
discardable word = has_mask word 0x02000000

-- whether the section may not be cached
abbrev pub not_cached : ℕ → Bool
not_cached word = has_mask word 0x04000000

-- whether the section may not be paged out
abbrev pub not_paged : ℕ → Bool
not_paged word = has_mask word 0x08000000

-- whether the section is shared in memory
abbrev pub shared : ℕ → Bool
shared word = has_mask word 0x10000000

-- whether the section may be executed
abbrev pub execute : ℕ → Bool
execute word = has_mask word 0x20000000

-- whether the section may be read
abbrev pub read : ℕ → Bool
read word = has_mask word 0x40000000

-- whether the section may be written
abbrev pub write : ℕ → Bool
write word = has_mask word 0x80000000
