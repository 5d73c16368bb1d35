-- The definitions, stated in other words.
use Rattle.std.specs.Prelude.{◌≡◌, ◌≢◌, ◌⊎◌, ◌↔◌, IsTrue, ℕ, ◌+◌, ◌*◌, ◌/◌, ◌%◌, ◌<◌, ◌≤◌, min, List, [], ◌∷◌, ◌++◌}
use Rattle.std.specs.Prelude.{length, drop, sum, slice_get, Some, Ok, Err, codes}
use Rattle.pdb_base.specs.Refusal.{Refusal, unexpected_eof, unimplemented_feature}
use Rattle.pdb_base.specs.Answer.{Answer}
use Rattle.pdb_base.specs.Index.{no_stream}
use Rattle.pdb_base.specs.Spelling.{SpellsNumber, Begins}
use Rattle.pdb_base.specs.declared.index.StreamIndex.{StreamIndex}
use Rattle.pdb_space.specs.StringTableLaws.{IsNameAt}
use Rattle.pdb_base.specs.Reading.{word_at}
use Rattle.pdb_file.specs.DbiHeader.{dbi_signature, header_size, dbi_header, dbi_header_of}
use Rattle.pdb_file.specs.DebugHeader.{sizes_before, debug_header_behind, extra_streams}
use Rattle.pdb_file.specs.StreamNames.{Map, Named, map_of, named_in, stream_names_of}
use Rattle.pdb_file.specs.Features.{features_in, features_of, minimal_number, no_type_merge_number, numbers_in}
use Rattle.pdb_file.specs.Features.{vc110_number, vc140_number}
use Rattle.pdb_file.specs.declared.dbi_header.DBIHeader.{DBIHeader}
use Rattle.pdb_file.specs.declared.debug_header.DBIExtraStreams.{DBIExtraStreams}
use Rattle.pdb_file.specs.declared.information.PDBInformation.{PDBInformation}

-- The only refusal is `unexpected_eof`, which is given because the bytes end too soon.
abbrev pub EndsTooSoon : {A : Type 0} → Answer A → Type 0
EndsTooSoon {A} answer = (e : Refusal) → answer ≡ Err e → e ≡ unexpected_eof

-- ---- the header of stream 3

-- The stream begins with a header: all its bytes are there, its fields are at their offsets, and the
-- first of them is the signature.
pub record HoldsHeader (stream : List ℕ) (header : DBIHeader) : Type 0 where
  pub whole : header_size ≤ length stream
  pub fields : dbi_header stream ≡ header
  pub signed : header.signature ≡ dbi_signature

-- `dbi_header_of` gives the header with which the stream begins. Any other stream is refused
-- with the first of three faults.
pub record FindsHeader (stream : List ℕ) : Type 0 where
  pub found : (header : DBIHeader) → dbi_header_of stream ≡ Ok header → HoldsHeader stream header
  pub only : (header : DBIHeader) → HoldsHeader stream header → dbi_header_of stream ≡ Ok header
  pub short : length stream < 4 → dbi_header_of stream ≡ Err unexpected_eof
  pub unsigned : 4 ≤ length stream → word_at 0 stream ≢ dbi_signature
      → dbi_header_of stream ≡ Err (unimplemented_feature (codes "ancient DBI header"))
  pub cut : 4 ≤ length stream → word_at 0 stream ≡ dbi_signature → length stream < header_size
      → dbi_header_of stream ≡ Err unexpected_eof

-- ---- its debug header

-- The bytes are a part of `size` bytes, followed by the rest.
pub record IsPartOf (size : ℕ) (bytes part rest : List ℕ) : Type 0 where
  pub len : length part ≡ size
  pub is : part ++ rest ≡ bytes

-- The bytes are parts of these sizes, one after another, followed by the rest.
abbrev pub LieInOrder : List ℕ → List ℕ → List ℕ → Type 0
LieInOrder [] bytes rest = bytes ≡ rest
LieInOrder (size ∷ sizes) bytes rest = (part : List ℕ) × (behind : List ℕ) × IsPartOf size bytes part behind
    × LieInOrder sizes behind rest

-- The stream begins with a header, and `list` is the debug header after all the parts before it.
pub record HoldsDebugHeader (stream list : List ℕ) : Type 0 where
  pub header : DBIHeader
  pub begins : HoldsHeader stream header
  pub behind : List ℕ
  pub before : LieInOrder (sizes_before header) stream behind
  pub rest : List ℕ
  pub taken : IsPartOf header.debug_header_size behind list rest

-- `debug_header_behind` gives the debug header that the stream holds. A stream that holds none is refused as
-- its header is, or because it ends too soon.
pub record FindsDebugHeader (stream : List ℕ) : Type 0 where
  pub found : (list : List ℕ) → debug_header_behind stream ≡ Ok list → HoldsDebugHeader stream list
  pub only : (list : List ℕ) → HoldsDebugHeader stream list → debug_header_behind stream ≡ Ok list
  pub refused : (e : Refusal) → dbi_header_of stream ≡ Err e → debug_header_behind stream ≡ Err e
  pub cut : (header : DBIHeader) → HoldsHeader stream header
      → length stream < sum (sizes_before header) + header.debug_header_size
      → debug_header_behind stream ≡ Err unexpected_eof

-- ---- roles

-- The stream at an index of a list is the number there, or no stream if the list ends before it. If the list
-- ends in half of that number, neither holds.
abbrev pub IsStreamListed : List ℕ → ℕ → StreamIndex → Type 0
IsStreamListed list place index =
    ((rest : List ℕ) × Begins (SpellsNumber 2) (drop (2 * place) list) index.0 rest)
    ⊎ ((length list ≤ 2 * place) × (index.0 ≡ no_stream))

-- The eleven roles have these streams, one line for each index.
pub record AreListed (list : List ℕ) (roles : DBIExtraStreams) : Type 0 where
  pub fpo : IsStreamListed list 0 roles.fpo
  pub exception : IsStreamListed list 1 roles.exception
  pub fixup : IsStreamListed list 2 roles.fixup
  pub omap_to_src : IsStreamListed list 3 roles.omap_to_src
  pub omap_from_src : IsStreamListed list 4 roles.omap_from_src
  pub section_headers : IsStreamListed list 5 roles.section_headers
  pub token_rid_map : IsStreamListed list 6 roles.token_rid_map
  pub xdata : IsStreamListed list 7 roles.xdata
  pub pdata : IsStreamListed list 8 roles.pdata
  pub framedata : IsStreamListed list 9 roles.framedata
  pub original_section_headers : IsStreamListed list 10 roles.original_section_headers

-- `extra_streams` gives the streams of the roles in a list. It fails if and only if the list ends in half of
-- one of the first eleven numbers.
pub record FindsRoles (list : List ℕ) : Type 0 where
  pub found : (roles : DBIExtraStreams) → extra_streams list ≡ Ok roles → AreListed list roles
  pub only : (roles : DBIExtraStreams) → AreListed list roles → extra_streams list ≡ Ok roles
  pub halved : length list < 22 → length list % 2 ≡ 1 → extra_streams list ≡ Err unexpected_eof
  pub refused : (e : Refusal) → extra_streams list ≡ Err e → (e ≡ unexpected_eof) × (length list < 22)
      × (length list % 2 ≡ 1)

-- ---- names

-- `front` spells a set of bits: a u32 number of words, and as many u32 words.
pub record SpellsSet (words front : List ℕ) : Type 0 where
  pub count : ℕ
  pub head : List ℕ
  pub counted : SpellsNumber 4 count head
  pub size : length words ≡ 4 * count
  pub is : head ++ words ≡ front

-- Stream 1 holds names, and after them a table: a count, a capacity, two sets of bits, and as many entries of
-- eight bytes as the count says. All bytes that follow are those behind it.
pub record HoldsMap (information : PDBInformation) (table : Map) : Type 0 where
  pub before : List ℕ
  pub behind : List ℕ
  pub header : IsPartOf information.names_offset information.stream before behind
  pub behind_names : List ℕ
  pub names : IsPartOf information.names_size behind table.names behind_names
  pub number : ℕ
  pub behind_count : List ℕ
  pub count : Begins (SpellsNumber 4) behind_names number behind_count
  pub most : ℕ
  pub behind_capacity : List ℕ
  pub capacity : Begins (SpellsNumber 4) behind_count most behind_capacity
  pub bits : List ℕ
  pub behind_present : List ℕ
  pub present : Begins SpellsSet behind_capacity bits behind_present
  pub other_bits : List ℕ
  pub behind_deleted : List ℕ
  pub deleted : Begins SpellsSet behind_present other_bits behind_deleted
  pub entries : IsPartOf (8 * number) behind_deleted table.entries table.behind

-- What entry k of a table says: the name at its offset, and its stream.
pub record IsNamed (table : Map) (k : ℕ) (named : Named) : Type 0 where
  pub name : IsNameAt table.names (word_at (8 * k) table.entries) named.name
  pub stream : named.stream ≡ min (word_at (8 * k + 4) table.entries) no_stream

-- There is a name and a stream for each entry, in order.
pub record AreNamed (table : Map) (named : List Named) : Type 0 where
  pub count : length named ≡ length table.entries / 8
  pub each : (k : ℕ) (one : Named) → slice_get named k ≡ Some one → IsNamed table k one

-- `map_of` gives the table that stream 1 holds, and `named_in` its named streams. There are none if and only
-- if the stream ends too soon, or a name has no NUL after it.
pub record FindsNamed (information : PDBInformation) : Type 0 where
  pub map_found : (table : Map) → map_of information ≡ Ok table → HoldsMap information table
  pub map_only : (table : Map) → HoldsMap information table → map_of information ≡ Ok table
  pub found : (table : Map) (named : List Named) → named_in table ≡ Ok named → AreNamed table named
  pub only : (table : Map) (named : List Named) → AreNamed table named → named_in table ≡ Ok named
  pub refused : EndsTooSoon (stream_names_of information)

-- ---- features

-- A list of numbers tells a number: it is in the list, and VC110 is not before it.
pub record IsFeatureTold (numbers : List ℕ) (number : ℕ) : Type 0 where
  pub place : ℕ
  pub there : slice_get numbers place ≡ Some number
  pub before : (k : ℕ) → k < place → slice_get numbers k ≢ Some vc110_number

-- Bytes tell a feature if and only if the list of their u32 numbers tells its number.
pub record TellFeatures (bytes : List ℕ) : Type 0 where
  pub vc110 : IsTrue (features_in bytes).vc110 ↔ IsFeatureTold (numbers_in bytes) vc110_number
  pub vc140 : IsTrue (features_in bytes).vc140 ↔ IsFeatureTold (numbers_in bytes) vc140_number
  pub no_type_merge : IsTrue (features_in bytes).no_type_merge ↔ IsFeatureTold (numbers_in bytes) no_type_merge_number
  pub minimal : IsTrue (features_in bytes).minimal ↔ IsFeatureTold (numbers_in bytes) minimal_number

-- `features_of` gives the features that the bytes after the table of stream 1 tell. There are none if and only if the
-- stream ends too soon for the table.
pub record FindsFeatures (information : PDBInformation) : Type 0 where
  pub found : (table : Map) → HoldsMap information table → features_of information ≡ Ok (features_in table.behind)
  pub told : (bytes : List ℕ) → TellFeatures bytes
  pub refused : EndsTooSoon (features_of information)
