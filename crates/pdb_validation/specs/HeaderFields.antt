-- Fields of headers, each of which may be wrong by itself, and the values that are known of some.
use Rattle.std.specs.Prelude.{ℕ, ◌==◌, Bool, List, [], ◌∷◌, Option, None}
use Rattle.std.specs.Bool.{then_some}
use Rattle.std.specs.List.{flat_map, list_any}
use Rattle.std.specs.Option.{option_to_list}
use Rattle.pdb_validation.specs.declared.header_fields.FieldCheck.{FieldCheck}
use Rattle.pdb_validation.specs.declared.mismatch.Mismatch.{Mismatch}

-- the mismatch of a field in a stream, or in none, if it is wrong
abbrev pub field_mismatch : Option ℕ → FieldCheck → Option Mismatch
field_mismatch stream field =
    then_some field.is_wrong (record { stream = stream; index = None; byte = field.byte; what = field.what })

-- the mismatches of the fields of a header
unfoldable pub fields_mismatches : Option ℕ → List FieldCheck → List Mismatch
fields_mismatches stream fields = flat_map (λ field. option_to_list (field_mismatch stream field)) fields

-- whether a number is one of these
abbrev pub is_one_of : List ℕ → ℕ → Bool
is_one_of numbers number = list_any (λ other. other == number) numbers

-- the versions of stream 1 (`PDBImpv` in Microsoft's pdb.h)
abbrev pub information_versions : List ℕ
information_versions =
    19941610 ∷ 19950623 ∷ 19950814 ∷ 19960307 ∷ 19970604 ∷ 19990604 ∷ 20000404 ∷ 20030901 ∷ 20091201 ∷ 20140508 ∷ []

-- the versions of stream 3 (`DBIImpv` in Microsoft's dbi.h)
abbrev pub debug_versions : List ℕ
debug_versions = 930803 ∷ 19960307 ∷ 19970606 ∷ 19990903 ∷ 20091201 ∷ []

-- the versions of a table of types or of ids (`TPIIMPV` in Microsoft's tpi.h)
abbrev pub table_versions : List ℕ
table_versions = 19950410 ∷ 19951122 ∷ 19961031 ∷ 19990903 ∷ 20040203 ∷ []

-- the machines (`IMAGE_FILE_HEADER.Machine` in Microsoft's winnt.h, and 0xc0ee for intermediate language alone)
abbrev pub known_machines : List ℕ
known_machines =
    0 ∷ 0x13 ∷ 0x14c ∷ 0x162 ∷ 0x166 ∷ 0x168 ∷ 0x169 ∷ 0x184 ∷ 0x1a2 ∷ 0x1a3 ∷ 0x1a4 ∷ 0x1a6 ∷ 0x1a8 ∷ 0x1c0
    ∷ 0x1c2 ∷ 0x1c4 ∷ 0x1d3 ∷ 0x1f0 ∷ 0x1f1 ∷ 0x200 ∷ 0x266 ∷ 0x284 ∷ 0x366 ∷ 0x466 ∷ 0x520 ∷ 0xcef ∷ 0xebc
    ∷ 0x3a64 ∷ 0x5032 ∷ 0x5064 ∷ 0x5128 ∷ 0x6232 ∷ 0x6264 ∷ 0x8664 ∷ 0x9041 ∷ 0xa641 ∷ 0xa64e ∷ 0xaa64 ∷ 0xc0ee
    ∷ []
