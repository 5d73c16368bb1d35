-- The example file S1: eight pages of 512 bytes, the last of them page 7.
use Rattle.std.specs.Prelude.{ℕ, ◌-◌, List, [], ◌∷◌, ◌++◌, length, replicate, codes}
use Rattle.std.specs.List.{flat_map}
use Rattle.pdb_base.specs.Endian.{little_bytes}

-- a page that begins with these bytes and is filled up with one byte
unfoldable pub page : List ℕ → ℕ → List ℕ
page front fill = front ++ replicate (512 - length front) fill

-- numbers of four bytes, the lowest first
abbrev pub u32s : List ℕ → List ℕ
u32s numbers = flat_map (little_bytes 4) numbers

-- the magic; page size 512, free page map 1, 8 pages used, a directory of 32 bytes, a zero, and page 3
-- in the list
unfoldable pub header : List ℕ
header = codes "Microsoft C/C++ MSF 7.00\r\n" ++ 26 ∷ 68 ∷ 83 ∷ 0 ∷ 0 ∷ 0 ∷ [] ++ u32s (512 ∷ 1 ∷ 8 ∷ 32 ∷ 0 ∷ 3 ∷ [])

-- four streams, of 0 and 600 bytes, absent, and of so many bytes; pages 6 and 5 of stream 1, and page 7
-- of stream 3
unfoldable pub directory : ℕ → List ℕ
directory size = u32s (4 ∷ 0 ∷ 600 ∷ 0xffffffff ∷ size ∷ 6 ∷ 5 ∷ 7 ∷ [])

-- the number of the directory's page
unfoldable pub location : List ℕ
location = u32s (2 ∷ [])

-- the bytes of stream 3
unfoldable pub hello : List ℕ
hello = codes "hello"

-- The file with these bytes as stream 3: the header; the free page map; the directory; the number of its
-- page; nothing; stream 1, its second page first; and stream 3.
unfoldable pub s1_of : List ℕ → List ℕ
s1_of stream =
    page header 0 ++ page [] 0 ++ page (directory (length stream)) 0 ++ page location 0
    ++ page [] 0 ++ page [] 98 ++ page [] 97 ++ page stream 0

-- the example file, whose stream 3 says `hello`
abbrev pub s1_bytes : List ℕ
s1_bytes = s1_of hello
