-- The definitions of pages, headers and streams, stated in other words.
use Rattle.pdb_base.specs.Reading.{word_at}
use Rattle.std.specs.Prelude.{◌≡◌, ◌≢◌, ◌⊎◌, ℕ, ◌+◌, ◌*◌, ◌<◌, ◌≤◌, List, length, take, drop, slice_index, slice_get}
use Rattle.std.specs.Prelude.{Option, Some, None, Result, Ok, Err}
use Rattle.std.specs.List.{sum_by}
use Rattle.pdb_base.specs.declared.error.Error.{Error}
use Rattle.pdb_base.specs.declared.error.Error.TheVariants.{OutOfMemory}
use Rattle.pdb_base.specs.Refusal.{Refusal, refusal_of}
use Rattle.pdb_base.specs.Answer.{AnswersUnless, IsOtherFault}
use Rattle.pdb_msf.specs.Source.{State, IsKept, HasFailed}
use Rattle.pdb_msf.specs.Pages.{pages, position_of, scatter, words, page_number, page_numbers}
use Rattle.pdb_msf.specs.Header.{Head, fields_of_header, directory_pages}
use Rattle.pdb_msf.specs.Directory.{absent, limit_size, pages_taken, sizes_of}
use Rattle.pdb_msf.specs.File.{stream_of}

-- `count` pages hold this many bytes, and no fewer pages do.
pub record IsLeast (page_size bytes count : ℕ) : Type 0 where
  pub reaches : bytes ≤ count * page_size
  pub least : (other : ℕ) → bytes ≤ other * page_size → count ≤ other

-- The bytes lie scattered over pages of a file: byte i is the file's byte at the position of byte i.
pub record IsScattered (file : List ℕ) (page_size : ℕ) (numbers : List ℕ) (size : ℕ) (bytes : List ℕ) : Type 0 where
  pub len : length bytes ≡ size
  pub each : (i : ℕ) → i < size → slice_get file (position_of page_size numbers i) ≡ Some (slice_index bytes i)

-- `scatter` gives the bytes that lie scattered over these pages. It gives None only if one of
-- them is past the end of the file.
pub record Scatters (file : List ℕ) (page_size : ℕ) (numbers : List ℕ) (size : ℕ) : Type 0 where
  pub found : (bytes : List ℕ) → scatter file page_size numbers size ≡ Some bytes
      → IsScattered file page_size numbers size bytes
  pub only : (bytes : List ℕ) → IsScattered file page_size numbers size bytes
      → scatter file page_size numbers size ≡ Some bytes
  pub missing : scatter file page_size numbers size ≡ None → (i : ℕ) × (i < size)
      × (length file ≤ position_of page_size numbers i)

-- If there are 52 bytes or more, the fields of a header stand at fixed offsets, and
-- the list of pages follows them.
abbrev pub HasHeaderAtOffsets : List ℕ → Type 0
HasHeaderAtOffsets view =
    52 ≤ length view → fields_of_header view ≡ Ok (
      record
          { page_size = word_at 32 view; pages_used = word_at 40 view; directory_size = word_at 44 view },
      drop 52 view,
    )

-- The page numbers are the first `count` words, each from 1 to the number of pages used.
pub record AreGood (pages_used count : ℕ) (words numbers : List ℕ) : Type 0 where
  pub len : length numbers ≡ count
  pub each : (i number : ℕ) → slice_get numbers i ≡ Some number → (slice_get words i ≡ Some number) × (0 < number)
      × (number ≤ pages_used)

-- The refusal of page numbers is that of the first word that is missing or isn't a valid page number.
pub record FirstFault (pages_used count : ℕ) (words : List ℕ) (fault : Refusal) : Type 0 where
  pub place : ℕ
  pub within : place < count
  pub good : List ℕ
  pub before : page_numbers pages_used place words ≡ Ok good
  pub here : page_number pages_used words place ≡ Err fault

-- If a stream can be read without a limit, it can be read with one, which gives the front of the same bytes.
abbrev pub CutsOnly : List ℕ → Head → ℕ → ℕ → Type 0
CutsOnly file head n limit = (bytes : List ℕ) → stream_of file head n None ≡ Ok bytes
    → stream_of file head n (Some limit) ≡ Ok (take limit bytes)

-- The directory of a file: its page numbers, four bytes each, are in the pages that the header lists, and its
-- bytes lie scattered over the pages of these numbers.
pub record IsDirectory (file : List ℕ) (head : Head) (directory : List ℕ) : Type 0 where
  pub location : List ℕ
  pub located : IsScattered file head.geometry.page_size head.location (4 * directory_pages head.geometry) location
  pub numbers : List ℕ
  pub good : AreGood head.geometry.pages_used (directory_pages head.geometry) (words location) numbers
  pub read : IsScattered file head.geometry.page_size numbers head.geometry.directory_size directory

-- Stream n of a file under a limit. The directory begins with the count of streams and a size for each. The
-- page numbers of stream n are as many words as its size takes pages, after the sizes and after the page
-- numbers of the streams before it, of which absent ones take none. The bytes lie scattered over the pages of
-- these numbers, as many as the size says, cut to the limit.
pub record IsStream (file : List ℕ) (head : Head) (n : ℕ) (limit : Option ℕ) (bytes : List ℕ) : Type 0 where
  pub directory : List ℕ
  pub has : IsDirectory file head directory
  pub count : ℕ
  pub counted : slice_get (words directory) 0 ≡ Some count
  pub known : n < count
  pub size : ℕ
  pub sized : slice_get (words directory) (1 + n) ≡ Some size
  pub there : size ≢ absent
  pub start : ℕ
  pub place : start ≡ 4 + 4 * count + 4 * sum_by (pages_taken head.geometry.page_size) (take n (sizes_of directory))
  pub reached : start ≤ length directory
  pub numbers : List ℕ
  pub good : AreGood head.geometry.pages_used (pages head.geometry.page_size size)
      (words (drop start directory)) numbers
  pub lies : IsScattered file head.geometry.page_size numbers (limit_size size limit) bytes

-- A file at one moment: the state of its source, and what its header says.
pub record Moment : Type 0 where
  pub state : State
  pub head : Head

-- `after` is a later moment of the same file, whatever was read between the two: the bytes of the
-- source and the header are the same.
pub record IsLater (before after : Moment) : Type 0 where
  pub source : IsKept before.state after.state
  pub head : after.head ≡ before.head

-- The error doesn't come from the bytes of the file: it is `OutOfMemory`, or the source itself failed, which
-- is possible only if `failed` holds.
abbrev pub ComesFromOutside : Type 0 → Error → Type 0
ComesFromOutside failed e = (e ≡ OutOfMemory) ⊎ (IsOtherFault e × failed)

-- Two calls return the same bytes or the same refusal, unless the error of one comes from outside the file.
abbrev pub AgreeUnless : Type 0 → Type 0 → Result (List ℕ) Error → Result (List ℕ) Error → Type 0
AgreeUnless failed later (Ok bytes) (Ok again) = again ≡ bytes
AgreeUnless failed later (Ok bytes) (Err e) = ComesFromOutside later e
AgreeUnless failed later (Err d) (Ok again) = ComesFromOutside failed d
AgreeUnless failed later (Err d) (Err e) = (refusal_of e ≡ refusal_of d)
    ⊎ (ComesFromOutside failed d ⊎ ComesFromOutside later e)

-- A stream that is read twice, at one moment of a file and at a later one, gives the same answer, as
-- `AgreeUnless` says. The two calls leave the source in the states `once_left` and `again_left`.
abbrev pub AnswersAlike : Moment → Moment → ℕ → Option ℕ → Type 0
AnswersAlike before after n limit = (once_left again_left : State) (once again : Result (List ℕ) Error)
    → AnswersUnless (HasFailed before.state once_left) (λ stream. stream) once
    (stream_of before.state.bytes before.head n limit)
    → AnswersUnless (HasFailed after.state again_left) (λ stream. stream) again
    (stream_of after.state.bytes after.head n limit)
    → AgreeUnless (HasFailed before.state once_left) (HasFailed after.state again_left) once again
