-- What a file is, as its first bytes say.
use Rattle.std.specs.Prelude.{ℕ, nat_eq, if◌then◌else◌, List, codes}
use Rattle.std.specs.List.{starts_with}
use Rattle.pdb_msf.specs.Header.{big_magic, small_magic}
use Rattle.pdb_file.specs.declared.format.Format.{Format}
use Rattle.pdb_file.specs.declared.format.Format.TheVariants as formats

-- the first bytes of a portable program database, which are the signature of its metadata (ECMA-335, II.24.2.1)
unfoldable pub portable_magic : List ℕ
portable_magic = codes "BSJB"

-- the first bytes of a cabinet, in which symbol servers keep a file that is compressed
unfoldable pub cabinet_magic : List ℕ
cabinet_magic = codes "MSCF"

-- the first bytes of a program or a library
unfoldable pub image_magic : List ℕ
image_magic = codes "MZ"

-- the format with whose first bytes a file begins; none of these begins with another
unfoldable pub format_of : List ℕ → Format
format_of file =
    if starts_with nat_eq file big_magic then formats.Msf7
    else if starts_with nat_eq file small_magic then formats.Msf2
    else if starts_with nat_eq file portable_magic then formats.Portable
    else if starts_with nat_eq file cabinet_magic then formats.Compressed
    else if starts_with nat_eq file image_magic then formats.Image
    else formats.Unknown
