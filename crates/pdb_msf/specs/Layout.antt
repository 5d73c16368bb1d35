-- What is kept of a file apart from its bytes, and how streams are read by it.
use Rattle.std.specs.Prelude.{ℕ, List, Option, None, Ok}
use Rattle.pdb_base.specs.Answer.{Answer, ◌>>=◌}
use Rattle.pdb_msf.specs.Source.{bytes_or_eof}
use Rattle.pdb_msf.specs.Pages.{scatter}
use Rattle.pdb_msf.specs.Header.{Head, file_head}
use Rattle.pdb_msf.specs.Directory.{directory_of, stream_entry_of, size_in}

-- what the header of a file says, and its directory
pub record LayoutValue : Type 0 where
  pub head : Head
  pub directory : List ℕ

-- the layout of a file that has this header
abbrev pub layout_behind : List ℕ → Head → Answer LayoutValue
layout_behind file head = directory_of file head >>= λ directory. Ok (record { head = head; directory = directory })

-- the layout of a file
unfoldable pub layout_of : List ℕ → Answer LayoutValue
layout_of file = file_head file >>= layout_behind file

-- the size of stream n of a layout
abbrev pub size_by : LayoutValue → ℕ → Answer ℕ
size_by layout n = size_in layout.head.geometry.page_size n layout.directory

-- the numbers of the pages of stream n of a layout, in the order of its bytes
abbrev pub pages_by : LayoutValue → ℕ → Answer (List ℕ)
pages_by layout n = stream_entry_of layout.head.geometry n None layout.directory >>= λ entry. Ok entry.pages

-- the bytes of a file that lie where a layout places stream n, at most as many as the limit says
unfoldable pub stream_by : LayoutValue → List ℕ → ℕ → Option ℕ → Answer (List ℕ)
stream_by layout file n limit = do
  entry ← stream_entry_of layout.head.geometry n limit layout.directory
  bytes_or_eof (scatter file layout.head.geometry.page_size entry.pages entry.size)
