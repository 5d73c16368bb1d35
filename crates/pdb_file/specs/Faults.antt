-- The faults of named streams in their order: the rules by which stream 1 names no streams, and by which a name
-- leads to no stream.
use Rattle.std.specs.Prelude.{◌≡◌, ◌≢◌, ℕ, ◌+◌, ◌*◌, ◌/◌, ◌<◌, List, [], ◌∷◌, ◌++◌, length, take, drop, None}
use Rattle.std.specs.List.{AllByRecursion, range_with_len}
use Rattle.pdb_base.specs.Index.{no_stream}
use Rattle.pdb_base.specs.Reading.{word_at}
use Rattle.pdb_base.specs.Refusal.{unexpected_eof, stream_name_not_found}
use Rattle.pdb_base.specs.Rules.{Rule, ◌⇒◌, FirstRefuses, rules_of_each, rule_of}
use Rattle.pdb_msf.specs.Header.{Head}
use Rattle.pdb_msf.specs.Laws.{IsStream}
use Rattle.pdb_msf.specs.Faults.{stream_rules}
use Rattle.pdb_space.specs.StringTableLaws.{name_rules}
use Rattle.pdb_file.specs.Information.{information}
use Rattle.pdb_file.specs.File.{information_stream}
use Rattle.pdb_file.specs.Laws.{AreNamed}
use Rattle.pdb_file.specs.StreamNames.{Map, Named}
use Rattle.pdb_file.specs.declared.information.PDBInformation.{PDBInformation}

-- the offset behind a set of bits at an offset: a u32 number of words, and as many u32 words
abbrev pub set_end : ℕ → List ℕ → ℕ
set_end at stream = at + 4 + 4 * word_at at stream

-- the offset in stream 1 at which the table of named streams begins, behind the names
abbrev pub table_start : PDBInformation → ℕ
table_start information = information.names_offset + information.names_size

-- the offset of its entries, behind a u32 count, a u32 capacity and two sets of bits
abbrev pub entries_start : PDBInformation → ℕ
entries_start information =
    set_end (set_end (table_start information + 4 + 4) information.stream) information.stream

-- how many bytes its entries take: eight each, as many as the count says
abbrev pub entries_size : PDBInformation → ℕ
entries_size information = 8 * word_at (table_start information) information.stream

-- the names, the entries, and the bytes behind these
abbrev pub map_within : PDBInformation → Map
map_within information = record {
  names = take information.names_size (drop information.names_offset information.stream);
  entries = take (entries_size information) (drop (entries_start information) information.stream);
  behind = drop (entries_start information + entries_size information) information.stream;
}

-- The rules of named streams: stream 1 holds the whole table, and for each entry in turn there is a NUL in the names at
-- its offset or after it.
abbrev pub named_rules : PDBInformation → List Rule
named_rules information =
    (length information.stream < entries_start information + entries_size information ⇒ unexpected_eof)
    ∷ rules_of_each (range_with_len 0 (length (map_within information).entries / 8))
    (λ k. name_rules (map_within information).names (word_at (8 * k) (map_within information).entries))

-- Stream 1 of a file names these streams, behind a header of 32 bytes.
abbrev pub NamesStreams : List ℕ → Head → List Named → Type 0
NamesStreams file head streams = (stream : List ℕ) × IsStream file head information_stream None stream
    × AreNamed (map_within (information stream)) streams

-- Of some streams, the first with a name has this number, which is that of a stream.
abbrev pub IsNumberNamed : List ℕ → List Named → ℕ → Type 0
IsNumberNamed name streams number = (before : List Named) × (named : Named) × (behind : List Named)
    × (streams ≡ before ++ named ∷ behind) × AllByRecursion (λ other. other.name ≢ name) before × (named.name ≡ name)
    × (named.stream ≡ number) × (number ≢ no_stream)

-- The first stream that a file names so has this number.
abbrev pub LeadsTo : List ℕ → Head → List ℕ → ℕ → Type 0
LeadsTo file head name number = (streams : List Named) × NamesStreams file head streams
    × IsNumberNamed name streams number

-- the rules of a named stream: those of stream 1 and of what it names, that the name leads to a number, and those
-- of the stream with that number
abbrev pub named_stream_rules : List ℕ → Head → List ℕ → List Rule
named_stream_rules file head name =
    FirstRefuses (stream_rules file head information_stream None)
    ∷ rule_of (IsStream file head information_stream None) (λ stream.
    (length stream < 32 ⇒ unexpected_eof) ∷ named_rules (information stream))
    ∷ rule_of (NamesStreams file head) (λ streams.
    (((number : ℕ) → ¬ IsNumberNamed name streams number) ⇒ stream_name_not_found) ∷ [])
    ∷ rule_of (LeadsTo file head name) (λ number. stream_rules file head number None)
    ∷ []

-- The file has a stream of this name, with these bytes.
abbrev pub IsNamedStream : List ℕ → Head → List ℕ → List ℕ → Type 0
IsNamedStream file head name stream = (number : ℕ) × LeadsTo file head name number
    × IsStream file head number None stream
