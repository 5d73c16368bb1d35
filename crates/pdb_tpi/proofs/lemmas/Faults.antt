-- The answers for a table, an item, a type and an id follow their rules.
use Rattle.std.proofs.Common.{◌≡◌, ◌≢◌, inl, inr, ℕ, ◌+◌, ◌-◌, ◌<◌, ◌≤◌, true, eqb, leb, List, [], ◌∷◌, length, take}
use Rattle.std.proofs.Common.{drop, refl, sym, ap, ◌∙◌, subst, arith, Option, Ok, Err}
use Rattle.std.specs.Prelude.{codes}
use Rattle.std.specs.List.{slice_get}
use Rattle.std.proofs.lemmas.Bool.{cases_lt, eq-eqb, eqb-false, eqb-true, le-leb, le-ltb, leb-false, leb-true, lt-leb}
use Rattle.std.proofs.lemmas.Bool.{lt-ltb}
use Rattle.std.proofs.lemmas.List.{length-drop, length-take-le}
use Rattle.std.proofs.lemmas.Option.{slice_get_within}
use Rattle.pdb_base.specs.declared.index.TypeIndex.{TypeIndex}
use Rattle.pdb_base.specs.Endian.{little_number}
use Rattle.pdb_base.specs.Refusal.{Refusal, unexpected_eof, invalid_type_information_header, unimplemented_type_kind}
use Rattle.pdb_base.specs.Answer.{Answer, ◌>>=◌, ok_if}
use Rattle.pdb_base.specs.Rules.{◌⇒◌, FirstRefuses, FollowsRules}
use Rattle.pdb_base.proofs.lemmas.Collected.{ok, err, ok_is, err_is, ok_is_no_err, answer_cases, bind_ok}
use Rattle.pdb_base.proofs.lemmas.Collected.{required_holds}
use Rattle.pdb_base.proofs.lemmas.Rules.{follows_ok, follows_fails, follows_kept, follows_refused, follows_passed}
use Rattle.pdb_base.proofs.lemmas.Rules.{follows_found, follows_next, follows_map, follows_if, follows_last}
use Rattle.pdb_base.proofs.lemmas.Rules.{follows_as_one, follows_assigned, follows_restated}
use Rattle.pdb_values.specs.Primitive.{first_record}
use Rattle.pdb_values.specs.TypeValue.{TypeValue, Fields, field_list, values_in}
use Rattle.pdb_values.specs.TypeValue as values
use Rattle.pdb_values.specs.TypeView.{primitive_of}
use Rattle.pdb_records.specs.Agreement.{Agrees}
use Rattle.pdb_records.specs.Fields.{field_list_leaf, record_at, type_record}
use Rattle.pdb_records.specs.Grammar.{IsRecord, NoRecord}
use Rattle.pdb_records.specs.Ids.{IsId, NoId, id_at, id_record}
use Rattle.pdb_records.proofs.lemmas.Agreed.{record_agrees, ids_agree}
use Rattle.pdb_tpi.specs.declared.header.Header.{Header}
use Rattle.pdb_tpi.specs.Header.{check_header, read_header_of, header_of}
use Rattle.pdb_tpi.specs.Table.{Table, table_of}
use Rattle.pdb_tpi.specs.Walk.{IsWalk, fault_of}
use Rattle.pdb_tpi.specs.Steps.{room, body, walk, walk_rest, nth_item}
use Rattle.pdb_tpi.specs.Finder.{item_of}
use Rattle.pdb_tpi.specs.Record.{kind_of, type_of, id_of}
use Rattle.pdb_tpi.specs.Chain.{ContinuedList, as_field_list, list_of, Lead, IsChain, Breaks, fields_of}
use Rattle.pdb_tpi.specs.Laws.{AreBytes}
use Rattle.pdb_tpi.specs.Faults.{table_header_at, table_in, table_rules, IsInWalk, IsItemOf, rest_rules, StopsBefore}
use Rattle.pdb_tpi.specs.Faults.{item_rules, IsTypeOf, type_rules, IsIdOf, id_rules, IsListOf, list_rules, LeadTo}
use Rattle.pdb_tpi.specs.Faults.{AreChained, ChainBreaks, AreFieldsOf}
use Rattle.pdb_tpi.proofs.ChainLemmas.{chain_answer}
use Rattle.pdb_tpi.proofs.FrontLemmas.{IsPrefix, item_front}
use Rattle.pdb_tpi.proofs.WalkLemmas.{fault_whole, nth_some}
use Rattle.pdb_tpi.proofs.StepLemmas.{nth_ok, nth_err}
use Rattle.pdb_tpi.proofs.HeaderLemmas.{fields_stand}
use Rattle.pdb_tpi.proofs.HeaderFaults.{too_short}
use Rattle.pdb_tpi.proofs.RecordLemmas.{refused_by_index}
use Rattle.pdb_tpi.proofs.LawLemmas.{bytes_dropped, walks_once, table_walk, has_fault}

-- ---- the table

within : (least most : ℕ) → leb least most ≡ true → ¬ (most < least)
within least most t past = let test : least ≤ most = leb-true least most t in omega arith

check_follows : (bytes : List ℕ) (header : Header) → FollowsRules (
    (header.header_size < 56 ⇒ invalid_type_information_header (codes "header size is impossibly small"))
    ∷ (1024 < header.header_size ⇒ invalid_type_information_header (codes "header size is unreasonably large"))
    ∷ (length bytes < header.header_size ⇒ unexpected_eof)
    ∷ (header.minimum_index < 4096 ⇒ invalid_type_information_header (codes "minimum type index is < 4096"))
    ∷ (header.maximum_index < header.minimum_index
    ⇒ invalid_type_information_header (codes "maximum type index is < minimum type index"))
    ∷ []
    ) (λ x. x ≡ tt) (check_header header (length bytes))
unfolding check_header
check_follows bytes header =
    follows_if _ (leb 56 header.header_size) _ _ _ _ (within 56 _) (leb-false 56 _) (λ _.
    follows_if _ (leb header.header_size 1024) _ _ _ _ (within _ 1024) (leb-false _ 1024) (λ _.
    follows_if _ (leb header.header_size (length bytes)) _ _ _ _ (within _ (length bytes))
    (leb-false _ (length bytes)) (λ _.
    follows_if _ (leb 4096 header.minimum_index) _ _ _ _ (within 4096 _) (leb-false 4096 _) (λ _.
    follows_last _ (leb header.minimum_index header.maximum_index) _ (within _ header.maximum_index)
    (leb-false _ header.maximum_index)))))

header_follows : (byte : ℕ) (bytes : List ℕ) → FollowsRules (table_rules (byte ∷ bytes))
    (λ header. header ≡ table_header_at (byte ∷ bytes)) (header_of (byte ∷ bytes))
header_follows byte bytes = elim (cases_lt (length (byte ∷ bytes)) 56) [
  | inl short ↦ rw (too_short (byte ∷ bytes) (omega arith) short) (follows_fails _ _ _ _ short)
  | inr long ↦ follows_kept _ _ _ _ _ (λ short. omega arith)
      (unfold header_of in unfold read_header_of in rw (fields_stand (byte ∷ bytes) long)
      (follows_next _ [] tt _ _ _ (check_follows (byte ∷ bytes) (table_header_at (byte ∷ bytes)))
      (follows_ok (table_header_at (byte ∷ bytes)))))
]

pub table_follows : (bytes : List ℕ)
    → FollowsRules (table_rules bytes) (λ table. table ≡ table_in bytes) (table_of bytes)
unfolding table_of
table_follows [] = unfold header_of in follows_ok (table_in [])
table_follows (byte ∷ bytes) =
    follows_map (table_rules (byte ∷ bytes)) (table_header_at (byte ∷ bytes)) (header_of (byte ∷ bytes))
    (λ header. let table : Table = record { bytes = byte ∷ bytes; header = header } in table)
    (header_follows byte bytes)

-- ---- an item

pub rest_follows : (bytes : List ℕ) → FollowsRules (rest_rules bytes) (λ (x : Unit {0}). ⊥) (err (fault_of bytes))
rest_follows bytes =
    let faults = has_fault bytes in
    elim (cases_lt (length bytes) 2) [
      | inl short ↦ rw (faults.no_length short) (follows_fails _ _ _ _ short)
      | inr long ↦ follows_kept _ _ _ _ _ (λ short. omega arith)
          (elim (cases_lt (little_number 2 (take 2 bytes)) 2) [
            | inl few ↦ rw (faults.too_short long few) (follows_fails _ _ _ _ few)
            | inr some ↦ follows_kept _ _ _ _ _ (λ few. omega arith)
                (elim (cases_lt (length bytes) (2 + little_number 2 (take 2 bytes))) [
                  | inl cut ↦ rw (faults.cut some cut) (follows_fails _ _ _ _ cut)
                  | inr whole ↦
                      let item = take (little_number 2 (take 2 bytes)) (drop 2 bytes) in
                      let size : length item ≡ little_number 2 (take 2 bytes) =
                      length-take-le (little_number 2 (take 2 bytes)) (drop 2 bytes)
                      (omega (arith, length-drop 2 bytes)) in
                      let front : IsPrefix bytes item = record {
                        kind = omega (arith, size);
                        within = omega (arith, size);
                        word = sym size;
                        is = ap (λ (n : ℕ). take n (drop 2 bytes)) (sym size);
                      } in
                      follows_kept _ _ _ _ _ (λ cut. omega arith)
                      (rw (fault_whole bytes item (item_front bytes item front))
                      (follows_fails (Unit {0}) _ [] _ tt))
                ])
          ])
    ]

walked : (table : Table) (n : ℕ) (item : List ℕ) → AreBytes table.bytes → nth_item table n ≡ Ok item
    → IsInWalk table n item
walked table n item fits e = record {
  items = walk table;
  rest = walk_rest table;
  walk = table_walk table fits;
  at = nth_ok table n item e;
}

-- the items of any walk are those of the table
same_walk : (table : Table) (items : List (List ℕ)) (rest : List ℕ) → AreBytes table.bytes
    → IsWalk (room table) (body table) items rest → (items ≡ walk table) × (rest ≡ walk_rest table)
unfolding walk walk_rest
same_walk table items rest fits is =
    (walks_once (room table) (body table) (bytes_dropped table.header.header_size table.bytes fits)).only items rest is

only_walked : (table : Table) (n : ℕ) (item : List ℕ) → AreBytes table.bytes → IsInWalk table n item
    → nth_item table n ≡ Ok item
only_walked table n item fits is =
    nth_some table n item (ap (λ (items : List (List ℕ)). slice_get items n)
    (sym (same_walk table is.items is.rest fits is.walk).0) ∙ is.at)

-- where the walk stops, it has one fault
stopped : (table : Table) (n : ℕ) (fault : Refusal) → AreBytes table.bytes → nth_item table n ≡ Err fault
    → StopsBefore table n fault
stopped table n fault fits e =
    let is = nth_err table n fault e in
    record {
      items = walk table;
      rest = walk_rest table;
      walk = table_walk table fits;
      short = is.0;
      fault = ((rest_follows (walk_rest table)).refused fault).0 (ap (λ (r : Refusal). err {A = Unit {0}} r) is.1);
    }

one_stop : (table : Table) (n : ℕ) (fault other : Refusal) → AreBytes table.bytes → nth_item table n ≡ Err fault
    → StopsBefore table n other → other ≡ fault
one_stop table n fault other fits e stops =
    let same = (same_walk table stops.items stops.rest fits stops.walk).1 in
    let first = subst (λ (rest : List ℕ). FirstRefuses (rest_rules rest) other) same stops.fault in
    sym (err_is {A = Unit {0}} (fault_of (walk_rest table)) other
    (((rest_follows (walk_rest table)).refused other).1 first)) ∙ (nth_err table n fault e).1

no_stop : (table : Table) (n : ℕ) (item : List ℕ) (fault : Refusal) → AreBytes table.bytes → nth_item table n ≡ Ok item
    → StopsBefore table n fault → ⊥
no_stop table n item fault fits e stops =
    let same = (same_walk table stops.items stops.rest fits stops.walk).0 in
    let few = subst (λ (items : List (List ℕ)). length items ≤ n) same stops.short in
    let there = slice_get_within (walk table) n item (nth_ok table n item e) in omega (arith, few, there)

-- an index that isn't below the minimum has the item that the walk has there
nth_follows : (table : Table) (index : ℕ) → AreBytes table.bytes → table.header.minimum_index ≤ index
    → index < table.header.maximum_index
    → FollowsRules ((λ refusal. (table.header.minimum_index ≤ index)
    × StopsBefore table (index - table.header.minimum_index) refusal) ∷ []) (IsItemOf table index)
    (nth_item table (index - table.header.minimum_index))
nth_follows table index fits above below =
    let n = index - table.header.minimum_index in
    elim (answer_cases (nth_item table (index - table.header.minimum_index))) [
      | inl there ↦ follows_passed _ [] (IsItemOf table index) _
          (λ e stops. no_stop table n there.0 e fits there.1 stops.1)
          (follows_found (IsItemOf table index) (nth_item table n) there.0 there.1
          (λ item e. inr (above, below, walked table n item fits e))
          (λ item is. elim is [
            | inl primitive ↦ absurd (omega (arith, primitive.0))
            | inr counted ↦ only_walked table n item fits counted.2
          ]))
      | inr refused ↦ rw refused.1 (follows_refused _ refused.0 (IsItemOf table index)
          (above, stopped table n refused.0 fits refused.1)
          (λ e stops. one_stop table n refused.0 e fits refused.1 stops.1))
    ]

pub item_follows : (table : Table) (index : ℕ) → AreBytes table.bytes
    → FollowsRules (item_rules table index) (IsItemOf table index) (item_of table index)
unfolding item_of
item_follows table index fits =
    elim (cases_lt index table.header.minimum_index) [
      | inl under ↦ rw (lt-ltb index table.header.minimum_index under)
          (follows_kept _ _ _ (IsItemOf table index) _ (λ past. let above = past.0 in omega arith)
          (follows_passed _ [] (IsItemOf table index) _ (λ e stops. let above = stops.0 in omega arith)
          (follows_found (IsItemOf table index) (ok (0xff ∷ 0xff ∷ [])) (0xff ∷ 0xff ∷ []) refl
          (λ item e. inl (under, sym (ok_is (0xff ∷ 0xff ∷ []) item e)))
          (λ item is. elim is [
            | inl primitive ↦ ap (λ (x : List ℕ). ok x) (sym primitive.1)
            | inr counted ↦ absurd (let above = counted.0 in omega arith)
          ]))))
      | inr above ↦ elim (cases_lt index table.header.maximum_index) [
        | inr past ↦ rw (le-ltb index table.header.minimum_index above, le-leb table.header.maximum_index index past)
            (follows_fails _ _ _ (IsItemOf table index) (above, past))
        | inl below ↦ rw (le-ltb index table.header.minimum_index above, lt-leb table.header.maximum_index index below)
            (follows_kept _ _ _ (IsItemOf table index) _ (λ past. let end = past.1 in omega arith)
            (nth_follows table index fits above below))
      ]
    ]

-- ---- what the item says

-- what a reader that agrees with a grammar reads, whatever is left behind it
agreed : {A : Type 0} (read : List ℕ → Answer (A × List ℕ)) (Is : List ℕ → A → List ℕ → Type 0)
    (No : List ℕ → Refusal → Type 0) → Agrees read Is No → (bytes : List ℕ)
    → FollowsRules (No bytes ∷ []) (λ value. (rest : List ℕ) × Is bytes value rest) (read bytes >>= λ x. Ok x.0)
agreed {A} read Is No agrees bytes = elim (answer_cases (read bytes)) [
  | inl there ↦ rw there.1 (follows_passed (No bytes) [] _ (ok there.0.0)
      (λ e bad. ok_is_no_err there.0 e (sym there.1 ∙ agrees.fails bytes e bad))
      (follows_found _ (ok there.0.0) there.0.0 refl
      (λ x e. subst (λ (v : A). (rest : List ℕ) × Is bytes v rest) (ok_is there.0.0 x e)
      (there.0.1, agrees.found bytes there.0.0 there.0.1 there.1))
      (λ x is. ap (λ (v : A). ok v) (ap (λ (p : A × List ℕ). p.0)
      (ok_is there.0 (x, is.0) (sym there.1 ∙ agrees.only bytes x is.0 is.1))))))
  | inr refused ↦ rw refused.1 (follows_refused (No bytes) refused.0 _ (agrees.failed bytes refused.0 refused.1)
      (λ e bad. err_is {A = A × List ℕ} e refused.0 (sym (agrees.fails bytes e bad) ∙ refused.1)))
]

pub id_follows : (item : List ℕ) → FollowsRules (id_rules item) (IsIdOf item) (id_of item)
unfolding id_of id_record
id_follows item = agreed id_at IsId NoId ids_agree item

primitive_follows : (index : ℕ) (item : List ℕ) → index < first_record
    → FollowsRules (type_rules index item) (IsTypeOf index item) (primitive_of index)
primitive_follows index item below = elim (answer_cases (primitive_of index)) [
  | inl there ↦ follows_kept _ _ _ (IsTypeOf index item) _ (λ none. none.1 there.0 there.1)
      (follows_passed _ [] (IsTypeOf index item) _ (λ e above. let bad = above.0 in omega arith)
      (follows_found (IsTypeOf index item) (primitive_of index) there.0 there.1 (λ value e. inl (below, e))
      (λ value is. elim is [ inl primitive ↦ primitive.1 | inr above ↦ absurd (let bad = above.0 in omega arith) ])))
  | inr refused ↦
      let named = refused_by_index index refused.0 refused.1 in
      rw (refused.1, named) (follows_fails _ _ _ _ (below, λ value there. cc))
]

record_follows : (index : ℕ) (item : List ℕ) → first_record ≤ index
    → FollowsRules (type_rules index item) (IsTypeOf index item) (type_record item)
unfolding type_record
record_follows index item above =
    let read = agreed record_at IsRecord NoRecord record_agrees item in
    follows_kept _ _ _ (IsTypeOf index item) _ (λ primitive. let bad = primitive.0 in omega arith) (record {
      refused = λ e. (
        λ h. elim ((read.refused e).0 h) [ inl bad ↦ inl (above, bad) | inr later ↦ absurd later.1 ],
        λ h. elim h [ inl bad ↦ (read.refused e).1 (inl bad.1) | inr later ↦ absurd later.1 ],
      );
      value = λ x. (
        λ h. let is = (read.value x).0 h in (((λ e bad. is.0.0 e bad.1), tt), inr (above, is.1)),
        λ both. elim both.1 [
          | inl primitive ↦ absurd (let bad = primitive.0 in omega arith)
          | inr is ↦ (read.value x).1 (((λ e bad. both.0.0 e (above, bad)), tt), is.1)
        ],
      );
    })

pub type_follows : (index : ℕ) (item : List ℕ)
    → FollowsRules (type_rules index item) (IsTypeOf index item) (type_of index item)
unfolding type_of
type_follows index item = elim (cases_lt index first_record) [
  | inl below ↦ rw (lt-ltb index first_record below) (primitive_follows index item below)
  | inr above ↦ rw (le-ltb index first_record above) (record_follows index item above)
]

-- ---- lists of fields

pub item_only : (table : Table) (index : ℕ) (item : List ℕ) → AreBytes table.bytes → IsItemOf table index item
    → item_of table index ≡ Ok item
unfolding item_of
item_only table index item fits (inl primitive) =
    rw (lt-ltb index table.header.minimum_index primitive.0) (ap (λ (x : List ℕ). ok x) (sym primitive.1))
item_only table index item fits (inr counted) =
    rw (
      le-ltb index table.header.minimum_index counted.0,
      lt-leb table.header.maximum_index index counted.1,
    ) (only_walked table (index - table.header.minimum_index) item fits counted.2)

type_only : (index : ℕ) (item : List ℕ) (value : TypeValue) → IsTypeOf index item value → type_of index item ≡ Ok value
unfolding type_of type_record
type_only index item value (inl primitive) = rw (lt-ltb index first_record primitive.0) primitive.1
type_only index item value (inr is) =
    rw (le-ltb index first_record is.0, record_agrees.only item value is.1.0 is.1.1) refl

abbrev SaysList : TypeValue → ContinuedList → Type 0
SaysList value list = (fields : Fields) × (value ≡ field_list fields list.continuation)
    × (list.fields ≡ values_in fields)

said_list : (kind : ℕ) (value : TypeValue) (list : ContinuedList) → SaysList value list
    → as_field_list kind value ≡ Ok list
said_list kind value list (fields, is, listed) =
    ap (as_field_list kind) is
    ∙ ap (λ (all : List TypeValue). ok
    (let said : ContinuedList = record { fields = all; continuation = list.continuation } in said)) (sym listed)

-- a type is a list of fields, or is refused with its kind
abbrev FollowsList : ℕ → TypeValue → Type 0
FollowsList kind value = FollowsRules (
    (((others : Fields) (continuation : Option TypeIndex) → value ≢ field_list others continuation)
    ⇒ unimplemented_type_kind kind)
    ∷ []
    ) (SaysList value) (as_field_list kind value)

unlisted : (kind : ℕ) (value : TypeValue) → ((others : Fields) (continuation : Option TypeIndex)
    → value ≢ field_list others continuation) → as_field_list kind value ≡ Err (unimplemented_type_kind kind)
    → FollowsList kind value
unlisted kind value none is = rw is (follows_fails _ _ [] (SaysList value) none)

as_list_follows : (kind : ℕ) (value : TypeValue) → FollowsList kind value
as_list_follows kind (field_list fields next) =
    let list : ContinuedList = record { fields = values_in fields; continuation = next } in
    follows_kept _ _ [] (SaysList (field_list fields next)) _ (λ none. none fields next refl)
    (follows_found (SaysList (field_list fields next)) (ok list) list refl
    (λ x e. subst (λ (l : ContinuedList). SaysList (field_list fields next) l) (ok_is list x e) (fields, refl, refl))
    (λ x is. said_list kind (field_list fields next) x is))
as_list_follows kind (values.plain value) = unlisted kind _ (λ fields next is. cc) refl
as_list_follows kind (values.array value) = unlisted kind _ (λ fields next is. cc) refl
as_list_follows kind (values.argument_list list) = unlisted kind _ (λ fields next is. cc) refl
as_list_follows kind (values.method_list list) = unlisted kind _ (λ fields next is. cc) refl

list_only : (table : Table) (index : ℕ) (list : ContinuedList) → AreBytes table.bytes → IsListOf table index list
    → list_of (item_of table) index ≡ Ok list
unfolding list_of
list_only table index list fits (item, is, (value, said, listed)) =
    rw (
      item_only table index item fits is,
      eq-eqb (kind_of item) field_list_leaf said.0,
      type_only index item value said.1,
    ) (said_list (kind_of item) value list listed)

list_found : (table : Table) (index : ℕ) (list : ContinuedList) → AreBytes table.bytes
    → list_of (item_of table) index ≡ Ok list → IsListOf table index list
unfolding list_of
list_found table index list fits e =
    let item = bind_ok (item_of table index) _ list e in
    let kind = kind_of item.0 in
    let is_list = bind_ok (ok_if (eqb (kind_of item.0) field_list_leaf) (unimplemented_type_kind (kind_of item.0)))
    _ list
    item.2 in
    let value = bind_ok (type_of index item.0) _ list is_list.2 in (
      item.0,
      (((item_follows table index fits).value item.0).0 item.1).1,
      (
        value.0,
        (
          eqb-true (kind_of item.0) field_list_leaf (required_holds _ _ is_list.0 is_list.1),
          (((type_follows index item.0).value value.0).0 value.1).1,
        ),
        (((as_list_follows (kind_of item.0) value.0).value list).0 value.2).1,
      ),
    )

list_follows : (table : Table) (index : ℕ) → AreBytes table.bytes
    → FollowsRules (list_rules table index) (IsListOf table index) (list_of (item_of table) index)
unfolding list_of
list_follows table index fits =
    follows_restated (list_rules table index) _ (IsListOf table index) _
    (follows_assigned (FirstRefuses (item_rules table index) ∷ []) _ (IsItemOf table index)
    (λ item list. (value : TypeValue) × IsTypeOf index item value × SaysList value list) (item_of table index) _
    (follows_as_one (item_rules table index) (IsItemOf table index) (item_of table index)
    (item_follows table index fits))
    (λ item _. follows_if _ (eqb (kind_of item) field_list_leaf) _ _ _ _
    (λ t other. other (eqb-true (kind_of item) field_list_leaf t)) (eqb-false (kind_of item) field_list_leaf)
    (λ _. follows_assigned (FirstRefuses (type_rules index item) ∷ []) _ (IsTypeOf index item) SaysList
    (type_of index item) (as_field_list (kind_of item))
    (follows_as_one (type_rules index item) (IsTypeOf index item) (type_of index item) (type_follows index item))
    (λ value _. as_list_follows (kind_of item) value))))
    (λ list e. list_found table index list fits e) (λ list is. list_only table index list fits is)

-- ---- chains

module _ (table : Table) (fits : AreBytes table.bytes) where
  lead_of : (from : ℕ) (lists : List ContinuedList) (to : ℕ) → LeadTo table from lists to
      → Lead (item_of table) from lists to
  lead_of from [] to lead = lead
  lead_of from (list ∷ lists) to (is, (next, goes_on, below, lead)) =
      (list_only table from list fits is, (next, goes_on, below, lead_of next.0 lists to lead))

  lead_in : (from : ℕ) (lists : List ContinuedList) (to : ℕ) → Lead (item_of table) from lists to
      → LeadTo table from lists to
  lead_in from [] to lead = lead
  lead_in from (list ∷ lists) to (is, (next, goes_on, below, lead)) =
      (list_found table from list fits is, (next, goes_on, below, lead_in next.0 lists to lead))

  chain_of : (index : ℕ) (lists : List ContinuedList) → AreChained table index lists
      → IsChain (item_of table) index lists
  chain_of index lists (before, at, last, are, lead, is, ends) = record {
    before = before;
    at = at;
    last = last;
    are = are;
    lead = lead_of index before at lead;
    is_last = list_only table at last fits is;
    ends = ends;
  }

  chain_in : (index : ℕ) (lists : List ContinuedList) → IsChain (item_of table) index lists
      → AreChained table index lists
  chain_in index lists chain = (
    chain.before,
    chain.at,
    chain.last,
    chain.are,
    lead_in index chain.before chain.at chain.lead,
    list_found table chain.at chain.last fits chain.is_last,
    chain.ends,
  )

  breaks_of : (index : ℕ) (e : Refusal) → ChainBreaks table index e → Breaks (item_of table) index e
  breaks_of index e (before, at, lead, why) = record {
    before = before;
    at = at;
    lead = lead_of index before at lead;
    why = elim why [
      | inl refused ↦ inl (((list_follows table at fits).refused e).1 refused)
      | inr (list, next, is, goes_on, above, named) ↦ inr (
        record { list = list; next = next; is = list_only table at list fits is; goes_on = goes_on; above = above },
        named,
      )
    ];
  }

  breaks_in : (index : ℕ) (e : Refusal) → Breaks (item_of table) index e → ChainBreaks table index e
  breaks_in index e breaks = (
    breaks.before,
    breaks.at,
    lead_in index breaks.before breaks.at breaks.lead,
    elim breaks.why [
      | inl refused ↦ inl (((list_follows table breaks.at fits).refused e).0 refused)
      | inr (up, named) ↦
          inr (up.list, up.next, list_found table breaks.at up.list fits up.is, up.goes_on, up.above, named)
    ],
  )

pub fields_follow : (table : Table) (index : ℕ) → AreBytes table.bytes
    → FollowsRules (ChainBreaks table index ∷ []) (AreFieldsOf table index) (fields_of (item_of table) index)
fields_follow table index fits =
    let chains = chain_answer (item_of table) index in
    record {
      refused = λ e. (
        λ h. inl (breaks_in table fits index e (chains.broken e h)),
        λ h. elim h [
          | inl breaks ↦ chains.refused e (breaks_of table fits index e breaks)
          | inr later ↦ absurd later.1
        ],
      );
      value = λ fields. (
        λ h. let chain = chains.chained fields h in (
          ((λ e breaks. chains.never_both chain.0 e chain.1 (breaks_of table fits index e breaks)), tt),
          (chain.0, chain_in table fits index chain.0 chain.1, chain.2),
        ),
        λ both. let chain = both.1 in chains.joined chain.0 (chain_of table fits index chain.0 chain.1)
            ∙ ap (λ (all : List TypeValue). ok all) (sym chain.2),
      );
    }
