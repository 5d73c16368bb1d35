-- The streams of a file.
use Rattle.std.specs.Prelude.{◌≡◌, ℕ, ◌+◌, ◌*◌, Bool, false, if◌then◌else◌, List, Option, IfSome, Result, Ok, Err}
use Rattle.pdb_base.specs.declared.error.Error.{Error}
use Rattle.pdb_base.specs.Answer.{Answer, ◌>>=◌, AnswersUnless}
use Rattle.pdb_msf.specs.declared.header.Geometry.{Geometry}
use Rattle.pdb_msf.specs.declared.header.Header.{Header}
use Rattle.pdb_msf.specs.declared.directory.Directory.{Directory}
use Rattle.pdb_msf.specs.declared.directory.StreamPlace.{StreamPlace}
use Rattle.pdb_msf.specs.Source.{HasFailed, IsFixed, IsKept, State, bytes_or_eof}
use Rattle.pdb_msf.specs.Pages.{scatter}
use Rattle.pdb_msf.specs.Header.{Head, IsHeader, directory_pages, header_view}
use Rattle.pdb_msf.specs.Directory.{PagesOfStream, HasStarts, directory_of, stream_entry_of, stream_place_in, size_in}
use Rattle.pdb_msf.specs.Directory.{stream_count_in}

-- an open file: its source, what its header says, how many bytes were requested from the source to read
-- streams, and whether its directory is kept in memory
pub record Opened (S : Type 0) : Type 0 where
  pub source : S
  pub head : Head
  pub asked : ℕ
  pub located : Bool

-- No stream of the file has been read yet: no bytes were requested to read
-- streams, and the directory isn't kept.
pub record IsFresh {S : Type 0} (file : Opened S) : Type 0 where
  pub asked : file.asked ≡ 0
  pub located : file.located ≡ false

-- A call that reads a file returns what is meant for the file's bytes and header, as `view` sees it, unless the source
-- failed, if its bytes are fixed. The bytes and the header stay the same.
pub record ReadsFile {S X A : Type 0} (state : S → State) (old new : Opened S) (view : X → A) (result : Result X Error)
    (meant : List ℕ → Head → Answer A) : Type 0 where
  pub answer : IsFixed (state old.source) → AnswersUnless (HasFailed (state old.source) (state new.source)) view result
      (meant (state old.source).bytes old.head)
  pub source : IsKept (state old.source) (state new.source)
  pub head : new.head ≡ old.head

-- where stream n of a file is in the directory
abbrev pub place_of_stream : List ℕ → Head → ℕ → Answer StreamPlace
place_of_stream file head n = directory_of file head >>= stream_place_in head.geometry.page_size n

-- how many streams a file has, including absent ones
abbrev pub stream_count_of : List ℕ → Head → Answer ℕ
stream_count_of file head = directory_of file head >>= stream_count_in

-- the size of stream n of a file
abbrev pub stream_size_of : List ℕ → Head → ℕ → Answer ℕ
stream_size_of file head n = directory_of file head >>= size_in head.geometry.page_size n

-- stream n of a file, as the directory describes it
abbrev pub described_stream : List ℕ → Head → ℕ → Option ℕ → Answer PagesOfStream
described_stream file head n limit = directory_of file head >>= stream_entry_of head.geometry n limit

-- the bytes of stream n of a file, at most as many as the limit says
unfoldable pub stream_of : List ℕ → Head → ℕ → Option ℕ → Answer (List ℕ)
stream_of file head n limit = do
  directory ← directory_of file head
  entry ← stream_entry_of head.geometry n limit directory
  bytes_or_eof (scatter file head.geometry.page_size entry.pages entry.size)

-- how many bytes are requested to locate the directory: its page numbers, four bytes each,
-- and its bytes; 0 if it is kept
abbrev pub locating : Bool → Geometry → ℕ
locating located geometry = if located then 0 else 4 * directory_pages geometry + geometry.directory_size

-- how many bytes of a stream are requested: its size, cut to the limit, or 0 if the stream is refused
abbrev pub requested_size : Answer PagesOfStream → ℕ
requested_size (Ok entry) = entry.size
requested_size (Err refusal) = 0

-- The directory that is kept is the one that the file has, if its bytes are fixed, with the offsets of its streams.
pub record IsKeptOf (file : State) (head : Head) (directory : Directory) : Type 0 where
  pub bytes : IsFixed file → directory_of file.bytes head ≡ Ok directory.bytes.items
  pub places : HasStarts head.geometry.page_size directory

-- An open file has a header that was read and, if its directory is kept, the directory that the file has.
pub record IsOpen (file : State) (header : Header) (directory : Option Directory) : Type 0 where
  pub read : IsHeader header
  pub kept : IfSome directory (IsKeptOf file (header_view header))
