-- What a file replies to a query, and what a run over many queries returns.
use Rattle.std.specs.Prelude.{◌≡◌, ◌≤◌, ◌⊎◌, List, [], ◌∷◌, length, map, ⊤, ℕ, All, Option, None, Result, Ok, Err}
use Rattle.std.specs.Global.{Vec}
use Rattle.std.specs.Option.{option_map}
use Rattle.std.specs.declared.ops.Range.{Range}
use Rattle.pdb_base.specs.declared.error.Error.{Error}
use Rattle.pdb_base.specs.declared.error.Error.TheVariants as errors
use Rattle.pdb_base.specs.Refusal.{refusal_of}
use Rattle.pdb_base.specs.Answer.{Answer, ◌>>=◌, RefusesUnless}
use Rattle.pdb_msf.specs.Header.{Head, file_head}
use Rattle.pdb_msf.specs.File.{stream_of}
use Rattle.pdb_space.specs.StringTable.{names_of, name_of}
use Rattle.pdb_space.specs.Omap.{OmapValue, IsSortedBySource, shift}
use Rattle.pdb_space.specs.Omap as omap
use Rattle.pdb_space.specs.Ranges.{IsNotEmpty, end_to_end, parts, pointwise}
use Rattle.pdb_values.specs.TypeValue as types
use Rattle.pdb_values.specs.IdValue.{id_name}
use Rattle.pdb_tpi.specs.Table.{Table, table_of}
use Rattle.pdb_tpi.specs.Finder.{item_of}
use Rattle.pdb_tpi.specs.Record.{kind_of, type_of, id_of}
use Rattle.pdb_tpi.specs.Chain.{fields_of}
use Rattle.pdb_container.specs.declared.query.Query.{Query}
use Rattle.pdb_container.specs.declared.query.Query.TheVariants as queries
use Rattle.pdb_container.specs.declared.query.Reply.{Reply}
use Rattle.pdb_container.specs.declared.query.Reply.TheVariants as replies

-- the contents of a reply
pub data ReplyValue : Type 0 where
  bytes : List ℕ → ReplyValue  -- the bytes of a stream
  item_record : ℕ → ℕ → Option (List ℕ) → ReplyValue  -- a record: its index, its kind, and its name if it has one
  fields : List (Option (List ℕ)) → ReplyValue  -- fields: the name of each, if it has one
  name : List ℕ → ReplyValue  -- a name
  moved : List OmapValue → Range ℕ → ReplyValue  -- where a table moves the addresses of a range

-- ---- the answers that are meant

-- the type of an index in a table, whose item is looked up in the whole walk
unfoldable pub type_in : ℕ → Table → Answer ReplyValue
type_in index table = do
  item ← item_of table index
  value ← type_of index item
  Ok (item_record index (kind_of item) (types.name_of_type value))

-- the id of an index in a table
unfoldable pub id_in : ℕ → Table → Answer ReplyValue
id_in index table = do
  item ← item_of table index
  value ← id_of item
  Ok (item_record index (kind_of item) (id_name value))

-- the names of the fields of a field list in a table, and of the lists that continue it
unfoldable pub fields_in : ℕ → Table → Answer ReplyValue
fields_in index table = do
  all ← fields_of (item_of table) index
  Ok (fields (map types.name_of_type all))

-- the type of an index in the table that a stream holds
unfoldable pub type_within : ℕ → List ℕ → Answer ReplyValue
type_within index stream = table_of stream >>= type_in index

-- the id of an index in the table that a stream holds
unfoldable pub id_within : ℕ → List ℕ → Answer ReplyValue
id_within index stream = table_of stream >>= id_in index

-- the names of the fields of a field list in the table that a stream holds
unfoldable pub fields_within : ℕ → List ℕ → Answer ReplyValue
fields_within index stream = table_of stream >>= fields_in index

-- the name at an offset in the names of a string table
unfoldable pub name_in : ℕ → List ℕ → Answer ReplyValue
name_in offset names = do
  text ← name_of names offset
  Ok (name text)

-- the name at an offset in the string table that a stream holds
unfoldable pub name_within : ℕ → List ℕ → Answer ReplyValue
name_within offset stream = names_of stream >>= name_in offset

-- where the OMAP table that a stream holds moves the addresses of a range
unfoldable pub moved_within : Range ℕ → List ℕ → Answer ReplyValue
moved_within asked stream = do
  table ← omap.omap_table_of stream
  Ok (moved table asked)

-- the stream that a query is about, and at most how many of its bytes
abbrev pub stream_asked : Query → ℕ × Option ℕ
stream_asked (queries.Stream number limit) = (number, limit)
stream_asked (queries.TypeRecord stream index) = (stream, None)
stream_asked (queries.IdRecord stream index) = (stream, None)
stream_asked (queries.Name stream offset) = (stream, None)
stream_asked (queries.Ranges stream start end) = (stream, None)
stream_asked (queries.Fields stream index) = (stream, None)

-- what the bytes of that stream answer to the query
abbrev pub said_within : Query → List ℕ → Answer ReplyValue
said_within (queries.Stream number limit) stream = Ok (bytes stream)
said_within (queries.TypeRecord number index) stream = type_within index stream
said_within (queries.IdRecord number index) stream = id_within index stream
said_within (queries.Name number offset) stream = name_within offset stream
said_within (queries.Ranges number start end) stream = moved_within (record { start = start; end = end }) stream
said_within (queries.Fields number index) stream = fields_within index stream

-- The reply to a query: what the bytes of its stream answer. The first fault is that of the stream, then of
-- the table in it, then of the look-up, then of the record that was looked up.
abbrev pub reply_by : (ℕ → Option ℕ → Answer (List ℕ)) → Query → Answer ReplyValue
reply_by streams query = streams (stream_asked query).0 (stream_asked query).1 >>= said_within query

-- the same of an open file
abbrev pub reply_of : List ℕ → Head → Query → Answer ReplyValue
reply_of file head query = reply_by (stream_of file head) query

-- the answer of a file to a query; the first fault is that of its header
unfoldable pub answer_of : List ℕ → Query → Answer ReplyValue
answer_of file query = file_head file >>= λ head. reply_of file head query

-- ---- the replies

-- These ranges are where a table moves the addresses of a range. If the table's sources never decrease,
-- they are the table's parts of the range, in order, and laid end to end they are where the addresses are
-- moved one by one. In any table, there is at most one range for each record, and none is empty.
pub record AreMoved (table : List OmapValue) (asked : Range ℕ) (ranges : List (Range ℕ)) : Type 0 where
  pub parts : IsSortedBySource table → ranges ≡ parts table asked
  pub laid : IsSortedBySource table → end_to_end ranges ≡ pointwise (shift table) asked
  pub few : length ranges ≤ length table
  pub not_empty : All IsNotEmpty ranges

-- A reply gives the answer that is meant. A refusal is the one that is meant, or says that memory was
-- refused, or is another fault of the source, which is possible only if `failed` holds.
abbrev pub IsReply : Type 0 → Reply → Answer ReplyValue → Type 0
IsReply failed (replies.Bytes stream) meant = meant ≡ Ok (bytes stream.items)
IsReply failed (replies.Record index kind text) meant =
    meant ≡ Ok (item_record index kind (option_map (λ copy. copy.items) text))
IsReply failed (replies.Fields names) meant =
    meant ≡ Ok (fields (map (λ name. option_map (λ copy. copy.items) name) names.items))
IsReply failed (replies.Name text) meant = meant ≡ Ok (name text.items)
IsReply failed (replies.Ranges ranges) meant = (table : List OmapValue) × (asked : Range ℕ)
    × (meant ≡ Ok (moved table asked)) × AreMoved table asked ranges.items
IsReply failed (replies.Refused e) meant = RefusesUnless failed e meant

-- A call that takes memory and reads no source returns the reply that is meant, or fails with the refusal
-- that is meant, or because memory ran out.
abbrev pub Replies : Result Reply Error → Answer ReplyValue → Type 0
Replies (Ok reply) meant = IsReply ⊥ reply meant
Replies (Err e) meant = (meant ≡ Err (refusal_of e)) ⊎ (e ≡ errors.OutOfMemory)

-- A call that reads a source does the same, or fails because the source itself failed, which is possible
-- only if `failed` holds.
abbrev pub RepliesUnless : Type 0 → Result Reply Error → Answer ReplyValue → Type 0
RepliesUnless failed (Ok reply) meant = IsReply failed reply meant
RepliesUnless failed (Err e) meant = RefusesUnless failed e meant

-- one reply to each query, in order
abbrev pub AreReplies : Type 0 → List ℕ → Head → List Query → List Reply → Type 0
AreReplies failed file head [] [] = ⊤
AreReplies failed file head (query ∷ queries) (reply ∷ replies) = IsReply failed reply (reply_of file head query)
    × AreReplies failed file head queries replies
AreReplies failed file head _ _ = ⊥

-- A run returns the replies of the file, or fails as opening the file does.
abbrev pub IsRun : Type 0 → List ℕ → List Query → Result (Vec Reply) Error → Type 0
IsRun failed file queries (Ok replies) = (head : Head) × (file_head file ≡ Ok head)
    × AreReplies failed file head queries replies.items
IsRun failed file queries (Err e) = RefusesUnless failed e (file_head file)
