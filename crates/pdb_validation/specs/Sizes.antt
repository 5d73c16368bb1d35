-- How large the directory and the streams of a file are.
use Rattle.std.specs.Prelude.{ℕ, min, List, map, Ok, Err}
use Rattle.std.specs.List.{range_with_len, sum_by}
use Rattle.pdb_base.specs.Answer.{Answer}
use Rattle.pdb_base.specs.Index.{no_stream}
use Rattle.pdb_base.specs.Reading.{word_at}
use Rattle.pdb_msf.specs.Directory.{stream_count_in}
use Rattle.pdb_msf.specs.Layout.{LayoutValue, size_by}

-- the size of the directory, as the header at the front of a file says it
abbrev pub directory_size : List ℕ → ℕ
directory_size file = word_at 44 file

-- the size of a stream, or 0 if there is no such stream or no size of it
abbrev pub size_or_none : Answer ℕ → ℕ
size_or_none (Ok size) = size
size_or_none (Err refusal) = 0

-- how many streams can be named: as many as the directory has, and at most as many as there are numbers of 16 bits
-- that name one
abbrev pub nameable : Answer ℕ → ℕ
nameable (Ok count) = min count no_stream
nameable (Err refusal) = no_stream

abbrev pub streams_nameable : LayoutValue → ℕ
streams_nameable layout = nameable (stream_count_in layout.directory)

-- the sizes of the first streams, added up
unfoldable pub layout_sizes : LayoutValue → ℕ → ℕ
layout_sizes layout count = sum_by size_or_none (map (size_by layout) (range_with_len 0 count))

-- the sizes of all streams that can be named, added up
abbrev pub streams_size : LayoutValue → ℕ
streams_size layout = layout_sizes layout (streams_nameable layout)
