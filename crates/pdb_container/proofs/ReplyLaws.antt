-- The replies of a file follow the rules of queries.
use Rattle.std.proofs.Common.{◌≡◌, ℕ, zero, suc, ◌<◌, List, [], ◌∷◌, length, map, refl, sym, ap, ◌∙◌, subst, arith}
use Rattle.std.proofs.Common.{slice_index, Option, Some, None, Ok, Err}
use Rattle.std.specs.List.{slice_get}
use Rattle.pdb_base.specs.Answer.{Answer, ◌>>=◌}
use Rattle.pdb_base.specs.Rules.{FirstRefuses, FollowsRules, rule_of}
use Rattle.pdb_base.proofs.lemmas.Rules.{bind_apart, follows_as_one, follows_assigned, follows_said}
use Rattle.pdb_msf.specs.Pages.{position_of}
use Rattle.pdb_msf.specs.Header.{Head, file_head}
use Rattle.pdb_msf.specs.File.{stream_of}
use Rattle.pdb_msf.specs.Laws.{IsStream}
use Rattle.pdb_msf.specs.Faults.{file_rules, stream_rules}
use Rattle.pdb_msf.proofs.lemmas.Faults.{file_follows, stream_follows}
use Rattle.pdb_space.specs.Omap.{mappings_of, omap_table_of}
use Rattle.pdb_space.specs.StringTable.{name_of, names_of}
use Rattle.pdb_space.specs.StringTableLaws.{HoldsNames, IsNameAt, name_rules, names_rules}
use Rattle.pdb_space.specs.Laws.{omap_rules}
use Rattle.pdb_space.proofs.lemmas.Faults.{name_follows, names_follow, omap_follows}
use Rattle.pdb_values.specs.TypeValue.{TypeValue, name_of_type}
use Rattle.pdb_values.specs.IdValue.{IdValue, id_name}
use Rattle.pdb_tpi.specs.Table.{Table, table_of}
use Rattle.pdb_tpi.specs.Finder.{item_of}
use Rattle.pdb_tpi.specs.Record.{kind_of, type_of, id_of}
use Rattle.pdb_tpi.specs.Chain.{fields_of}
use Rattle.pdb_tpi.specs.Laws.{AreBytes}
use Rattle.pdb_tpi.specs.Faults.{table_in, table_rules, IsItemOf, item_rules, IsTypeOf, type_rules, IsIdOf, id_rules}
use Rattle.pdb_tpi.specs.Faults.{AreFieldsOf, ChainBreaks}
use Rattle.pdb_tpi.proofs.lemmas.Faults.{table_follows, item_follows, type_follows, id_follows, fields_follow}
use Rattle.pdb_container.specs.declared.query.Query.{Query}
use Rattle.pdb_container.specs.declared.query.Query.TheVariants as queries
use Rattle.pdb_container.specs.Reply.{ReplyValue, bytes, item_record, fields, name, moved, type_within, type_in}
use Rattle.pdb_container.specs.Reply.{id_within}
use Rattle.pdb_container.specs.Reply.{id_in, name_within, name_in, moved_within, fields_within, fields_in, reply_of}
use Rattle.pdb_container.specs.Reply.{answer_of}
use Rattle.pdb_container.specs.Replies.{HasHead, HoldsTable, HasItemAt, HoldsStrings, HoldsOmap, IsMeant, reply_rules}
use Rattle.pdb_container.specs.Replies.{IsAnswer, answer_rules}

-- ---- the bytes of a stream are bytes of the file

byte_of : (file : List ℕ) (place byte : ℕ) → AreBytes file → slice_get file place ≡ Some byte → byte < 256
byte_of [] place byte fits is = absurd cc
byte_of (first ∷ file) zero byte fits is = let same : first ≡ byte = cc in subst (λ (b : ℕ). b < 256) same fits.0
byte_of (first ∷ file) (suc place) byte fits is = byte_of file place byte fits.1 is

each_byte : (stream : List ℕ) → ((i : ℕ) → i < length stream → slice_index stream i < 256) → AreBytes stream
each_byte [] each = tt
each_byte (byte ∷ stream) each = (each 0 (omega arith), each_byte stream (λ i lt. each (suc i) (omega arith)))

stream_bytes : (file : List ℕ) (head : Head) (n : ℕ) (limit : Option ℕ) (stream : List ℕ) → AreBytes file
    → IsStream file head n limit stream → AreBytes stream
stream_bytes file head n limit stream fits is =
    each_byte stream (λ i lt. byte_of file (position_of head.geometry.page_size is.numbers i) (slice_index stream i)
    fits
    (is.lies.each i (omega (arith, is.lies.len))))

table_bytes : (stream : List ℕ) → (table_in stream).bytes ≡ stream
table_bytes [] = refl
table_bytes (byte ∷ stream) = refl

held_bytes : (file : List ℕ) (head : Head) (number : ℕ) (table : Table) → AreBytes file
    → HoldsTable file head number table → AreBytes table.bytes
held_bytes file head number table fits (stream, is, held) =
    subst AreBytes (sym (ap (λ (t : Table). t.bytes) held ∙ table_bytes stream))
    (stream_bytes file head number None stream fits is)

-- ---- what a file holds

stream_one : (file : List ℕ) (head : Head) (number : ℕ) (limit : Option ℕ)
    → FollowsRules (FirstRefuses (stream_rules file head number limit) ∷ []) (IsStream file head number limit)
    (stream_of file head number limit)
stream_one file head number limit =
    follows_as_one (stream_rules file head number limit) (IsStream file head number limit)
    (stream_of file head number limit) (stream_follows file head number limit)

table_held : (file : List ℕ) (head : Head) (number : ℕ)
    → FollowsRules (
    FirstRefuses (stream_rules file head number None)
    ∷ rule_of (IsStream file head number None) table_rules
    ∷ []
    ) (HoldsTable file head number) (stream_of file head number None >>= table_of)
table_held file head number =
    follows_assigned _ table_rules (IsStream file head number None) (λ stream table. table ≡ table_in stream)
    (stream_of file head number None) table_of (stream_one file head number None) (λ stream _. table_follows stream)

item_held : (file : List ℕ) (head : Head) (number index : ℕ) → AreBytes file
    → FollowsRules (
    FirstRefuses (stream_rules file head number None)
    ∷ rule_of (IsStream file head number None) table_rules
    ∷ rule_of (HoldsTable file head number) (λ table. item_rules table index)
    ∷ []
    ) (HasItemAt file head number index) (stream_of file head number None >>= table_of >>= λ table. item_of table index)
item_held file head number index fits =
    follows_assigned _ (λ table. item_rules table index) (HoldsTable file head number)
    (λ table item. IsItemOf table index item) _ (λ table. item_of table index) (table_held file head number)
    (λ table held. item_follows table index (held_bytes file head number table fits held))

-- ---- steps one behind the other

two_steps : {A B C : Type 0} (answer : Answer A) (f : A → Answer B) (g : B → Answer C)
    → (answer >>= f >>= g) ≡ (answer >>= λ x. f x >>= g)
two_steps answer f g = bind_apart answer f g

three_steps : {A B C D : Type 0} (answer : Answer A) (f : A → Answer B) (g : B → Answer C) (h : C → Answer D)
    → (answer >>= f >>= g >>= h) ≡ (answer >>= λ x. f x >>= λ y. g y >>= h)
three_steps (Ok x) f g h = bind_apart (f x) g h
three_steps (Err e) f g h = refl

-- ---- the replies

pub reply_follows : (file : List ℕ) (head : Head) (query : Query) → AreBytes file
    → FollowsRules (reply_rules file head query) (IsMeant file head query) (reply_of file head query)
unfolding type_within type_in id_within id_in name_within name_in moved_within fields_within fields_in
reply_follows file head (queries.Stream number limit) fits =
    follows_said _ (IsStream file head number limit) (stream_of file head number limit) (λ stream. bytes stream)
    (stream_one file head number limit)
reply_follows file head (queries.TypeRecord number index) fits =
    subst (λ (answer : Answer ReplyValue). FollowsRules (reply_rules file head (queries.TypeRecord number index))
    (IsMeant file head (queries.TypeRecord number index)) answer)
    (three_steps (stream_of file head number None) table_of (λ table. item_of table index)
    (λ item. type_of index item >>= λ value. Ok (item_record index (kind_of item) (name_of_type value))))
    (follows_assigned _ (type_rules index) (HasItemAt file head number index)
    (λ item reply. (type : TypeValue) × IsTypeOf index item type
    × (reply ≡ item_record index (kind_of item) (name_of_type type))) _
    (λ item. type_of index item >>= λ value. Ok (item_record index (kind_of item) (name_of_type value)))
    (item_held file head number index fits)
    (λ item _. follows_said (type_rules index item) (IsTypeOf index item) (type_of index item)
    (λ value. item_record index (kind_of item) (name_of_type value)) (type_follows index item)))
reply_follows file head (queries.IdRecord number index) fits =
    subst (λ (answer : Answer ReplyValue). FollowsRules (reply_rules file head (queries.IdRecord number index))
    (IsMeant file head (queries.IdRecord number index)) answer)
    (three_steps (stream_of file head number None) table_of (λ table. item_of table index)
    (λ item. id_of item >>= λ value. Ok (item_record index (kind_of item) (id_name value))))
    (follows_assigned _ id_rules (HasItemAt file head number index)
    (λ item reply. (id : IdValue) × IsIdOf item id × (reply ≡ item_record index (kind_of item) (id_name id))) _
    (λ item. id_of item >>= λ value. Ok (item_record index (kind_of item) (id_name value)))
    (item_held file head number index fits)
    (λ item _. follows_said (id_rules item) (IsIdOf item) (id_of item)
    (λ value. item_record index (kind_of item) (id_name value)) (id_follows item)))
reply_follows file head (queries.Name number offset) fits =
    subst (λ (answer : Answer ReplyValue). FollowsRules (reply_rules file head (queries.Name number offset))
    (IsMeant file head (queries.Name number offset)) answer)
    (two_steps (stream_of file head number None) names_of (λ names. name_of names offset >>= λ text. Ok (name text)))
    (follows_assigned _ (λ names. name_rules names offset) (HoldsStrings file head number)
    (λ names reply. (text : List ℕ) × IsNameAt names offset text × (reply ≡ name text)) _
    (λ names. name_of names offset >>= λ text. Ok (name text))
    (follows_assigned _ names_rules (IsStream file head number None) HoldsNames (stream_of file head number None)
    names_of (stream_one file head number None) (λ stream _. names_follow stream))
    (λ names _. follows_said (name_rules names offset) (IsNameAt names offset) (name_of names offset)
    (λ text. name text) (name_follows names offset)))
reply_follows file head (queries.Ranges number start end) fits =
    subst (λ (answer : Answer ReplyValue). FollowsRules (reply_rules file head (queries.Ranges number start end))
    (IsMeant file head (queries.Ranges number start end)) answer)
    (two_steps (stream_of file head number None) omap_table_of
    (λ table. Ok (moved table (record { start = start; end = end }))))
    (follows_said _ (HoldsOmap file head number) _ (λ table. moved table (record { start = start; end = end }))
    (follows_assigned _ omap_rules (IsStream file head number None) (λ stream table. table ≡ mappings_of stream)
    (stream_of file head number None) omap_table_of (stream_one file head number None)
    (λ stream _. omap_follows stream)))
reply_follows file head (queries.Fields number index) fits =
    subst (λ (answer : Answer ReplyValue). FollowsRules (reply_rules file head (queries.Fields number index))
    (IsMeant file head (queries.Fields number index)) answer)
    (two_steps (stream_of file head number None) table_of
    (λ table. fields_of (item_of table) index >>= λ all. Ok (fields (map name_of_type all))))
    (follows_assigned _ (λ table. ChainBreaks table index ∷ []) (HoldsTable file head number)
    (λ table reply. (all : List TypeValue) × AreFieldsOf table index all × (reply ≡ fields (map name_of_type all))) _
    (λ table. fields_of (item_of table) index >>= λ all. Ok (fields (map name_of_type all)))
    (table_held file head number)
    (λ table held. follows_said (ChainBreaks table index ∷ []) (AreFieldsOf table index) (fields_of (item_of table)
    index)
    (λ all. fields (map name_of_type all))
    (fields_follow table index (held_bytes file head number table fits held))))

pub answer_follows : (file : List ℕ) (query : Query) → AreBytes file
    → FollowsRules (answer_rules file query) (IsAnswer file query) (answer_of file query)
unfolding answer_of
answer_follows file query fits =
    follows_assigned (FirstRefuses (file_rules file) ∷ []) (λ head. reply_rules file head query) (HasHead file)
    (λ head reply. IsMeant file head query reply) (file_head file) (λ head. reply_of file head query)
    (follows_as_one (file_rules file) (HasHead file) (file_head file) (file_follows file))
    (λ head _. reply_follows file head query fits)
