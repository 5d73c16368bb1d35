-- Lists of fields: what the code's values say, and what its loop keeps.
use Rattle.std.proofs.Common.{◌≡◌, ◌≢◌, ℕ, Bool, true, false, ◌==◌, ◌<◌, List, [], ◌∷◌, ◌++◌, length, refl, sym, ap}
use Rattle.std.proofs.Common.{◌∙◌, Option, Some, Ok, Err}
use Rattle.std.specs.Option.{option_or}
use Rattle.std.proofs.lemmas.Bool.{ne_eqb}
use Rattle.pdb_base.specs.declared.index.TypeIndex.{TypeIndex}
use Rattle.pdb_base.specs.Refusal.{Refusal}
use Rattle.pdb_base.specs.Answer.{Answer, ◌>>=◌}
use Rattle.pdb_base.specs.Reading.{number_at}
use Rattle.pdb_base.proofs.lemmas.Collected.{ok}
use Rattle.pdb_records.specs.ToEnd.{to_end}
use Rattle.pdb_records.proofs.Agreeing.{bind_at, bind_no}
use Rattle.pdb_records.proofs.StepLemmas.{behind, to_end_step, to_end_ends, to_end_stops}
use Rattle.pdb_values.specs.declared.type_data.TypeData.{TypeData}
use Rattle.pdb_values.specs.TypeValue.{TypeValue, Fields}
use Rattle.pdb_values.specs.TypeView.{type_value, fields_value}
use Rattle.pdb_values.specs.TypeValue as values
use Rattle.pdb_records.specs.Row.{row}
use Rattle.pdb_records.specs.Rows.{continuation_row}
use Rattle.pdb_records.specs.Padding.{padding_at}
use Rattle.pdb_records.specs.Records.{behind_leaf}
use Rattle.pdb_records.specs.Fields.{Entry, field, continues, fields_among, continuation_of, field_list_of, entry_of}
use Rattle.pdb_records.specs.Fields.{field_at, field_list_at, continuation_in, list_continuation_at, continuation_leaf}
use Rattle.pdb_records.specs.Grammar.{IsEntry, NoEntry}
use Rattle.pdb_records.proofs.GrammarLaws.{field_agrees, field_takes}

-- ---- one entry more

-- values with one behind them
pushed : Fields → TypeValue → Fields
pushed values.no_field value = values.first_field value values.no_field
pushed (values.first_field first more) value = values.first_field first (pushed more value)

fields_push : (entries : List Entry) (value : TypeValue)
    → fields_among (entries ++ field value ∷ []) ≡ pushed (fields_among entries) value
unfolding pushed
fields_push [] value = refl
fields_push (field first ∷ entries) value =
    ap (λ (more : Fields). values.first_field first more) (fields_push entries value)
fields_push (continues index ∷ entries) value = fields_push entries value

values_push : (xs : List TypeData) (t : TypeData)
    → fields_value (xs ++ t ∷ []) ≡ pushed (fields_value xs) (type_value t)
unfolding pushed
values_push [] t = refl
values_push (x ∷ xs) t = ap (λ (more : Fields). values.first_field (type_value x) more) (values_push xs t)

pub fields_more : (entries : List Entry) (xs : List TypeData) (t : TypeData) → fields_among entries ≡ fields_value xs
    → fields_among (entries ++ field (type_value t) ∷ []) ≡ fields_value (xs ++ t ∷ [])
fields_more entries xs t same = fields_push entries (type_value t) ∙ ap (λ (v : Fields). pushed v (type_value t)) same
    ∙ sym (values_push xs t)

pub fields_same : (entries : List Entry) (index : TypeIndex)
    → fields_among (entries ++ continues index ∷ []) ≡ fields_among entries
fields_same [] index = refl
fields_same (field first ∷ entries) index =
    ap (λ (more : Fields). values.first_field first more) (fields_same entries index)
fields_same (continues other ∷ entries) index = fields_same entries index

pub continuation_same : (entries : List Entry) (value : TypeValue)
    → continuation_of (entries ++ field value ∷ []) ≡ continuation_of entries
continuation_same [] value = refl
continuation_same (field first ∷ entries) value = continuation_same entries value
continuation_same (continues other ∷ entries) value =
    ap (λ (o : Option TypeIndex). option_or o (Some other)) (continuation_same entries value)

pub continuation_last : (entries : List Entry) (index : TypeIndex)
    → continuation_of (entries ++ continues index ∷ []) ≡ Some index
continuation_last [] index = refl
continuation_last (field first ∷ entries) index = continuation_last entries index
continuation_last (continues other ∷ entries) index =
    ap (λ (o : Option TypeIndex). option_or o (Some other)) (continuation_last entries index)

-- ---- an entry, step by step

-- what is left to read of an entry behind its leaf, and behind what stands there
abbrev behind_number : ℕ → List ℕ → Answer (Entry × List ℕ)
behind_number number bytes = entry_of (number == continuation_leaf) number bytes >>= λ entry. padding_at entry.1
    >>= λ nothing. ok (entry.0, nothing.1)

abbrev padded : Entry → List ℕ → Answer (Entry × List ℕ)
padded entry bytes = padding_at bytes >>= λ nothing. ok (entry, nothing.1)

leaf_read : (bytes : List ℕ) (number : ℕ) (mid : List ℕ) → number_at 2 bytes ≡ Ok (number, mid)
    → field_at bytes ≡ behind_number number mid
unfolding field_at
leaf_read bytes number mid is = bind_at (number_at 2 bytes) (λ n. behind_number n.0 n.1) (number, mid) is

-- no leaf is left
pub no_leaf : (bytes : List ℕ) (e : Refusal) → number_at 2 bytes ≡ Err e → field_at bytes ≡ Err e
unfolding field_at
no_leaf bytes e is = bind_no (number_at 2 bytes) (λ n. behind_number n.0 n.1) e is

-- the leaf of an entry was read, and behind it an index
continuation_read : (mid : List ℕ) (index : TypeIndex) (end : List ℕ) → row continuation_row mid ≡ Ok (index, end)
    → behind_number continuation_leaf mid ≡ padded (continues index) end
continuation_read mid index end is =
    bind_at (entry_of true continuation_leaf mid) (λ entry. padded entry.0 entry.1) (continues index, end)
    (bind_at (row continuation_row mid) (λ i. ok (continues i.0, i.1)) (index, end) is)

-- or a field
field_read : (number : ℕ) (mid : List ℕ) (value : TypeValue) (end : List ℕ) → number ≢ continuation_leaf
    → behind_leaf number mid ≡ Ok (value, end) → behind_number number mid ≡ padded (field value) end
field_read number mid value end other is =
    ap (λ (test : Bool). entry_of test number mid >>= λ entry. padded entry.0 entry.1)
    (ne_eqb number continuation_leaf other)
    ∙ bind_at (entry_of false number mid) (λ entry. padded entry.0 entry.1) (field value, end)
    (bind_at (behind_leaf number mid) (λ v. ok (field v.0, v.1)) (value, end) is)

pub continuation_at : (bytes : List ℕ) (mid : List ℕ) (index : TypeIndex) (end rest : List ℕ)
    → number_at 2 bytes ≡ Ok (continuation_leaf, mid) → row continuation_row mid ≡ Ok (index, end)
    → padding_at end ≡ Ok (tt, rest) → field_at bytes ≡ Ok (continues index, rest)
continuation_at bytes mid index end rest leaf read pads =
    leaf_read bytes continuation_leaf mid leaf ∙ continuation_read mid index end read
    ∙ bind_at (padding_at end) (λ nothing. ok (continues index, nothing.1)) (tt, rest) pads

pub one_field_at : (bytes : List ℕ) (number : ℕ) (mid : List ℕ) (value : TypeValue) (end rest : List ℕ)
    → number_at 2 bytes ≡ Ok (number, mid) → number ≢ continuation_leaf → behind_leaf number mid ≡ Ok (value, end)
    → padding_at end ≡ Ok (tt, rest) → field_at bytes ≡ Ok (field value, rest)
one_field_at bytes number mid value end rest leaf other read pads =
    leaf_read bytes number mid leaf ∙ field_read number mid value end other read
    ∙ bind_at (padding_at end) (λ nothing. ok (field value, nothing.1)) (tt, rest) pads

-- and the refusals of each
pub no_continuation : (bytes : List ℕ) (mid : List ℕ) (e : Refusal) → number_at 2 bytes ≡ Ok (continuation_leaf, mid)
    → row continuation_row mid ≡ Err e → field_at bytes ≡ Err e
no_continuation bytes mid e leaf refused =
    leaf_read bytes continuation_leaf mid leaf
    ∙ bind_no (entry_of true continuation_leaf mid) (λ entry. padded entry.0 entry.1) e
    (bind_no (row continuation_row mid) (λ i. ok (continues i.0, i.1)) e refused)

pub no_field : (bytes : List ℕ) (number : ℕ) (mid : List ℕ) (e : Refusal) → number_at 2 bytes ≡ Ok (number, mid)
    → number ≢ continuation_leaf → behind_leaf number mid ≡ Err e → field_at bytes ≡ Err e
no_field bytes number mid e leaf other refused =
    leaf_read bytes number mid leaf
    ∙ ap (λ (test : Bool). entry_of test number mid >>= λ entry. padded entry.0 entry.1)
    (ne_eqb number continuation_leaf other)
    ∙ bind_no (entry_of false number mid) (λ entry. padded entry.0 entry.1) e
    (bind_no (behind_leaf number mid) (λ v. ok (field v.0, v.1)) e refused)

pub cut_continuation : (bytes : List ℕ) (mid : List ℕ) (index : TypeIndex) (end : List ℕ) (e : Refusal)
    → number_at 2 bytes ≡ Ok (continuation_leaf, mid) → row continuation_row mid ≡ Ok (index, end)
    → padding_at end ≡ Err e → field_at bytes ≡ Err e
cut_continuation bytes mid index end e leaf read cut =
    leaf_read bytes continuation_leaf mid leaf ∙ continuation_read mid index end read
    ∙ bind_no (padding_at end) (λ nothing. ok (continues index, nothing.1)) e cut

pub cut_field : (bytes : List ℕ) (number : ℕ) (mid : List ℕ) (value : TypeValue) (end : List ℕ) (e : Refusal)
    → number_at 2 bytes ≡ Ok (number, mid) → number ≢ continuation_leaf → behind_leaf number mid ≡ Ok (value, end)
    → padding_at end ≡ Err e → field_at bytes ≡ Err e
cut_field bytes number mid value end e leaf other read cut =
    leaf_read bytes number mid leaf ∙ field_read number mid value end other read
    ∙ bind_no (padding_at end) (λ nothing. ok (field value, nothing.1)) e cut

-- ---- the loop

pub entries_step : (before : List Entry) (bytes : List ℕ) (entry : Entry) (rest : List ℕ)
    → field_at bytes ≡ Ok (entry, rest)
    → behind before (to_end field_at bytes) ≡ behind (before ++ entry ∷ []) (to_end field_at rest)
entries_step = to_end_step field_at IsEntry NoEntry field_agrees field_takes

pub entry_shorter : (bytes : List ℕ) (entry : Entry) (rest : List ℕ) → field_at bytes ≡ Ok (entry, rest)
    → length rest < length bytes
entry_shorter bytes entry rest is = field_takes bytes entry rest (field_agrees.found bytes entry rest is)

-- all entries were read
pub field_list_all : (bytes : List ℕ) (entries : List Entry) (left : List ℕ)
    → to_end field_at bytes ≡ behind entries (to_end field_at left) → left ≡ []
    → field_list_at bytes ≡ Ok (field_list_of entries, left)
field_list_all bytes entries left all none =
    bind_at (to_end field_at bytes) (λ es. ok (field_list_of es.0, es.1)) (entries, [])
    (all ∙ ap (λ (b : List ℕ). behind entries (to_end field_at b)) none ∙ to_end_ends field_at entries)
    ∙ ap (λ (b : List ℕ). ok (field_list_of entries, b)) (sym none)

-- an entry was refused
pub field_list_stops : (bytes : List ℕ) (entries : List Entry) (left : List ℕ) (e : Refusal)
    → to_end field_at bytes ≡ behind entries (to_end field_at left) → left ≢ [] → field_at left ≡ Err e
    → field_list_at bytes ≡ Err e
field_list_stops bytes entries left e all some refused =
    bind_no (to_end field_at bytes) (λ es. ok (field_list_of es.0, es.1)) e
    (all ∙ to_end_stops field_at entries left e some refused)

-- the same for the list's continuation alone
pub skip_all : (bytes : List ℕ) (entries : List Entry) (left : List ℕ)
    → to_end field_at bytes ≡ behind entries (to_end field_at left) → left ≡ []
    → list_continuation_at bytes ≡ Ok (continuation_of entries, left)
skip_all bytes entries left all none =
    bind_at (field_list_at bytes) (λ list. ok (continuation_in list.0, list.1)) (field_list_of entries, left)
    (field_list_all bytes entries left all none)

pub skip_stops : (bytes : List ℕ) (entries : List Entry) (left : List ℕ) (e : Refusal)
    → to_end field_at bytes ≡ behind entries (to_end field_at left) → left ≢ [] → field_at left ≡ Err e
    → list_continuation_at bytes ≡ Err e
skip_stops bytes entries left e all some refused =
    bind_no (field_list_at bytes) (λ list. ok (continuation_in list.0, list.1)) e
    (field_list_stops bytes entries left e all some refused)
