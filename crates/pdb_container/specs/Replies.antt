-- What a file replies to a query. `IsMeant` says what the reply is if no rule of `reply_rules` refuses, and the law
-- `replies` joins the two by `FollowsRules`: an answer is the refusal of the first rule that refuses, and otherwise the
-- value that is meant. Of a list of rules the first that refuses counts. Both are made of relations, and of
-- numbers at fixed offsets, which the crates below define:
-- `head_in` gives the numbers of a header, each at its offset.
-- `IsStream` says that byte i of a stream is the file's byte at page[i / page size] * page size + i % page size.
-- `table_in` gives the header of a table, each of its fields at its offset, and the table's bytes.
-- `IsWalk`, in `IsItemOf`, says that items, each with its length before it, follow one another in a table.
-- `IsRecord` and `IsId`, in `IsTypeOf` and `IsIdOf`, are the grammars of type records and id records.
-- `HoldsNames` and `IsNameAt` say what a string table and a name in it are.
-- `mappings_of` gives the records of an OMAP table, eight bytes each. A reply `moved` names such a table and a range;
-- `AreMoved` (in `Reply`) says which ranges it may hold.
use Rattle.std.specs.Prelude.{◌≡◌, ℕ, List, [], ◌∷◌, map, take, None}
use Rattle.pdb_base.specs.Rules.{Rule, FirstRefuses, rule_of}
use Rattle.pdb_msf.specs.Header.{Head}
use Rattle.pdb_msf.specs.Laws.{IsStream}
use Rattle.pdb_msf.specs.Faults.{head_in, file_rules, stream_rules}
use Rattle.pdb_space.specs.Omap.{OmapValue, mappings_of}
use Rattle.pdb_space.specs.Laws.{omap_rules}
use Rattle.pdb_space.specs.StringTableLaws.{HoldsNames, IsNameAt, name_rules, names_rules}
use Rattle.pdb_values.specs.TypeValue.{TypeValue, name_of_type}
use Rattle.pdb_values.specs.IdValue.{IdValue, id_name}
use Rattle.pdb_tpi.specs.Table.{Table}
use Rattle.pdb_tpi.specs.Record.{kind_of}
use Rattle.pdb_tpi.specs.Faults.{table_in, table_rules, IsItemOf, item_rules, IsTypeOf, type_rules, IsIdOf, id_rules}
use Rattle.pdb_tpi.specs.Faults.{AreFieldsOf, ChainBreaks}
use Rattle.pdb_container.specs.declared.query.Query.{Query}
use Rattle.pdb_container.specs.declared.query.Query.TheVariants as queries
use Rattle.pdb_container.specs.Reply.{ReplyValue, bytes, item_record, fields, name, moved}

-- ---- what a file holds

-- The header has the numbers at its offsets in the first 4096 bytes. `file_rules` say whether these are a header.
abbrev pub HasHead : List ℕ → Head → Type 0
HasHead file head = head ≡ head_in (take 4096 file)

-- Read as a table of items, a stream has this header and these bytes. `table_rules` say whether it is one.
abbrev pub HoldsTable : List ℕ → Head → ℕ → Table → Type 0
HoldsTable file head number table = (stream : List ℕ) × IsStream file head number None stream
    × (table ≡ table_in stream)

-- The table in the stream of a number has this item for an index.
abbrev pub HasItemAt : List ℕ → Head → ℕ → ℕ → List ℕ → Type 0
HasItemAt file head number index item = (table : Table) × HoldsTable file head number table × IsItemOf table index item

-- The stream of a number holds a string table with these names.
abbrev pub HoldsStrings : List ℕ → Head → ℕ → List ℕ → Type 0
HoldsStrings file head number names = (stream : List ℕ) × IsStream file head number None stream
    × HoldsNames stream names

-- Read as an OMAP table, a stream has these records. `omap_rules` check that its length is a multiple of eight.
abbrev pub HoldsOmap : List ℕ → Head → ℕ → List OmapValue → Type 0
HoldsOmap file head number table = (stream : List ℕ) × IsStream file head number None stream
    × (table ≡ mappings_of stream)

-- ---- what it replies

-- The contents of the reply to a query: the bytes of a stream; the kind and the name of a type or of an id; a name;
-- where an OMAP table moves a range; or the names of the fields of the lists in a chain.
abbrev pub IsMeant : List ℕ → Head → Query → ReplyValue → Type 0
IsMeant file head (queries.Stream number limit) reply =
    (stream : List ℕ) × IsStream file head number limit stream × (reply ≡ bytes stream)
IsMeant file head (queries.TypeRecord number index) reply =
    (item : List ℕ) × HasItemAt file head number index item
    × ((type : TypeValue) × IsTypeOf index item type × (reply ≡ item_record index (kind_of item) (name_of_type type)))
IsMeant file head (queries.IdRecord number index) reply =
    (item : List ℕ) × HasItemAt file head number index item
    × ((id : IdValue) × IsIdOf item id × (reply ≡ item_record index (kind_of item) (id_name id)))
IsMeant file head (queries.Name number offset) reply =
    (names : List ℕ) × HoldsStrings file head number names
    × ((text : List ℕ) × IsNameAt names offset text × (reply ≡ name text))
IsMeant file head (queries.Ranges number start end) reply =
    (table : List OmapValue) × HoldsOmap file head number table
    × (reply ≡ moved table (record { start = start; end = end }))
IsMeant file head (queries.Fields number index) reply =
    (table : Table) × HoldsTable file head number table
    × ((all : List TypeValue) × AreFieldsOf table index all × (reply ≡ fields (map name_of_type all)))

-- The rules of a query, in their order: those of the stream, of the table in it, of the look-up, and of the record.
abbrev pub reply_rules : List ℕ → Head → Query → List Rule
reply_rules file head (queries.Stream number limit) = FirstRefuses (stream_rules file head number limit) ∷ []
reply_rules file head (queries.TypeRecord number index) =
    FirstRefuses (stream_rules file head number None)
    ∷ rule_of (IsStream file head number None) table_rules
    ∷ rule_of (HoldsTable file head number) (λ table. item_rules table index)
    ∷ rule_of (HasItemAt file head number index) (λ item. type_rules index item)
    ∷ []
reply_rules file head (queries.IdRecord number index) =
    FirstRefuses (stream_rules file head number None)
    ∷ rule_of (IsStream file head number None) table_rules
    ∷ rule_of (HoldsTable file head number) (λ table. item_rules table index)
    ∷ rule_of (HasItemAt file head number index) id_rules
    ∷ []
reply_rules file head (queries.Name number offset) =
    FirstRefuses (stream_rules file head number None)
    ∷ rule_of (IsStream file head number None) names_rules
    ∷ rule_of (HoldsStrings file head number) (λ names. name_rules names offset)
    ∷ []
reply_rules file head (queries.Ranges number start end) =
    FirstRefuses (stream_rules file head number None) ∷ rule_of (IsStream file head number None) omap_rules ∷ []
reply_rules file head (queries.Fields number index) =
    FirstRefuses (stream_rules file head number None)
    ∷ rule_of (IsStream file head number None) table_rules
    ∷ rule_of (HoldsTable file head number) (λ table. ChainBreaks table index ∷ [])
    ∷ []

-- ---- the whole file

-- The contents of the reply of a file to a query, by its header.
abbrev pub IsAnswer : List ℕ → Query → ReplyValue → Type 0
IsAnswer file query reply = (head : Head) × HasHead file head × IsMeant file head query reply

-- the rules of a file and a query: those of the header, and then those of the query
abbrev pub answer_rules : List ℕ → Query → List Rule
answer_rules file query =
    FirstRefuses (file_rules file) ∷ rule_of (HasHead file) (λ head. reply_rules file head query) ∷ []
