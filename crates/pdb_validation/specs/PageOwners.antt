-- What owns each page of a file: what locates the directory, the directory, or a stream.
use Rattle.std.specs.Prelude.{ℕ, ◌*◌, List, [], ◌++◌, length, map, min, slice_index, Some, None, Ok, Err}
use Rattle.std.specs.List.{flat_map, range_with_len}
use Rattle.pdb_base.specs.Answer.{Answer}
use Rattle.pdb_base.specs.Index.{no_stream}
use Rattle.pdb_msf.specs.Directory.{directory_numbers, stream_count_in}
use Rattle.pdb_msf.specs.Layout.{LayoutValue, pages_by}
use Rattle.pdb_validation.specs.declared.page_owners.PageOwner.{PageOwner}

-- a page of the directory, or one that locates it
abbrev pub container_owner : ℕ → PageOwner
container_owner page = record { stream = None; byte = None; page = page }

-- the page of a stream at a place among its pages
abbrev pub owner_at : ℕ → ℕ → List ℕ → ℕ → PageOwner
owner_at number page_size pages place =
    record { stream = Some number; byte = Some (place * page_size); page = slice_index pages place }

-- the pages of a stream, each with the byte of the stream with which it begins
abbrev pub owners_in_stream : ℕ → ℕ → List ℕ → List PageOwner
owners_in_stream number page_size pages = map (owner_at number page_size pages) (range_with_len 0 (length pages))

-- the page numbers, if they can be read
abbrev pub pages_or_none : Answer (List ℕ) → List ℕ
pages_or_none (Ok pages) = pages
pages_or_none (Err refusal) = []

-- the pages of stream n of a layout
abbrev pub owners_of_stream : LayoutValue → ℕ → List PageOwner
owners_of_stream layout n = owners_in_stream n layout.head.geometry.page_size (pages_or_none (pages_by layout n))

-- how many streams can be named: as many as the directory has, and at most as many as there are numbers of 16 bits
-- that name one
abbrev pub streams_of : Answer ℕ → ℕ
streams_of (Ok count) = min count no_stream
streams_of (Err refusal) = 0

-- the pages of all streams that can be named
abbrev pub owners_in_streams : LayoutValue → List PageOwner
owners_in_streams layout =
    flat_map (owners_of_stream layout) (range_with_len 0 (streams_of (stream_count_in layout.directory)))

-- the pages of the directory of a file, if they can be read
abbrev pub directory_pages_of : List ℕ → LayoutValue → List ℕ
directory_pages_of file layout = pages_or_none (directory_numbers file layout.head)

-- the pages that locate the directory, those of the directory, and those of the streams in their order
unfoldable pub layout_owners : List ℕ → LayoutValue → List PageOwner
layout_owners file layout =
    map container_owner layout.head.location ++ map container_owner (directory_pages_of file layout)
    ++ owners_in_streams layout
