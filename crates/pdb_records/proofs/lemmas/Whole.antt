-- What a call that answers as a type record is read says beside the grammar.
use Rattle.std.proofs.Common.{◌≡◌, inl, inr, ℕ, List, length, sym, ap, ◌∙◌, Result, Ok, Err, IfOk, IsErrAnd, Bool, ◌==◌}
use Rattle.std.proofs.Common.{◌≢◌, Option}
use Rattle.std.proofs.lemmas.Bool.{ne_eqb}
use Rattle.pdb_base.specs.declared.error.Error.{Error}
use Rattle.pdb_base.specs.declared.error.Error.TheVariants.{UnexpectedEof}
use Rattle.pdb_base.specs.Refusal.{Refusal, refusal_of, unexpected_eof}
use Rattle.pdb_base.specs.Answer.{Answers}
use Rattle.pdb_base.specs.Reading.{number_at}
use Rattle.pdb_base.proofs.lemmas.Refused.{passed_on}
use Rattle.pdb_base.specs.Memory.{LacksOnlyIf}
use Rattle.pdb_base.proofs.lemmas.Collected.{bind_ok, err_is, ok, ok_is, ok_is_no_err, bind_err}
use Rattle.pdb_values.specs.declared.type_data.TypeData.{TypeData}
use Rattle.pdb_base.specs.declared.index.TypeIndex.{TypeIndex}
use Rattle.pdb_values.specs.TypeValue.{Fields, TypeValue, argument_list, field_list}
use Rattle.pdb_values.specs.TypeView.{type_value}
use Rattle.pdb_records.specs.ToEnd.{to_end}
use Rattle.pdb_records.specs.Fields.{Entry, continuation_in, continuation_of, field_at, field_list_at, field_list_leaf}
use Rattle.pdb_records.specs.Fields.{field_list_of, fields_among, list_continuation_at, record_at, record_of}
use Rattle.pdb_records.specs.Fields.{type_record}
use Rattle.pdb_records.specs.declared.parse.counted.CountWidth.TheVariants.{Bits32}
use Rattle.pdb_records.specs.Counted.{counted_at}
use Rattle.pdb_records.specs.Shape.{as_type}
use Rattle.pdb_records.specs.Records.{arguments_end, behind_leaf}
use Rattle.pdb_records.proofs.Agreeing.{bind_at, bind_no}
use Rattle.pdb_records.specs.Memory.{NeedsMemory, IsFalseCount, argument_list_leaf}
use Rattle.pdb_records.specs.Short.{IsShort}
use Rattle.pdb_records.specs.Grammar.{IsRecord, NoRecord}
use Rattle.pdb_records.specs.Assigned.{SaysAssigned, ShowsOrLacks, RefusesOrLacks}
use Rattle.pdb_records.proofs.NoWant.{number_no_want}
use Rattle.pdb_records.proofs.ListLemmas.{refused}
use Rattle.pdb_records.proofs.AssignedLemmas.{says_front, says_assigned, shows_assigned, refuses_assigned, end_is}
use Rattle.pdb_records.proofs.GrammarLaws.{record_agrees}
use Rattle.pdb_records.proofs.ShortLemmas.{record_short}
use Rattle.pdb_records.proofs.MemoryLemmas.{false_count_read, false_count_needs_none, passes_no_want}

-- what is read, but for what is left behind it
pub says_type : (bytes rest : List ℕ) (result : Result TypeData Error)
    → Answers (λ t. (type_value t, rest)) result (record_at bytes) → Answers type_value result (type_record bytes)
unfolding type_record
says_type bytes rest result is = says_front type_value rest result (record_at bytes) is

-- ---- the grammar

pub says_record : (bytes rest : List ℕ) (result : Result TypeData Error)
    → Answers (λ t. (type_value t, rest)) result (record_at bytes)
    → SaysAssigned type_value (IsRecord bytes) (NoRecord bytes) result
says_record = says_assigned type_value record_at IsRecord NoRecord record_agrees

pub shows_record : (bytes rest : List ℕ) (result : Result TypeData Error)
    → Answers (λ t. (type_value t, rest)) result (record_at bytes)
    → (value : TypeValue) (more : List ℕ) → IsRecord bytes value more → ShowsOrLacks type_value value result
shows_record = shows_assigned type_value record_at IsRecord NoRecord record_agrees

pub refuses_record : (bytes rest : List ℕ) (result : Result TypeData Error)
    → Answers (λ t. (type_value t, rest)) result (record_at bytes)
    → (refusal : Refusal) → NoRecord bytes refusal → RefusesOrLacks refusal result
refuses_record = refuses_assigned type_value record_at IsRecord NoRecord record_agrees

-- ---- lists

pub says_short : (bytes rest : List ℕ) (result : Result TypeData Error)
    → Answers (λ t. (type_value t, rest)) result (record_at bytes)
    → IfOk result (λ t. IsShort (length bytes) (type_value t))
says_short bytes rest (Ok t) is = record_short bytes (type_value t) rest
    (record_agrees.found bytes (type_value t) rest is)
says_short bytes rest (Err e) is = tt

pub says_cut : (bytes rest : List ℕ) (result : Result TypeData Error)
    → Answers (λ t. (type_value t, rest)) result (record_at bytes) → LacksOnlyIf result (NeedsMemory bytes)
    → IsFalseCount bytes → result ≡ Err UnexpectedEof
says_cut bytes rest (Ok t) is lacks says_too_much =
    absurd (ok_is_no_err (type_value t, rest) unexpected_eof (sym is ∙ false_count_read bytes says_too_much))
says_cut bytes rest (Err e) (inl is) lacks says_too_much =
    ap (λ (d : Error). refused {X = TypeData} d)
    (end_is e (err_is {A = TypeValue × List ℕ} (refusal_of e) unexpected_eof
    (sym is ∙ false_count_read bytes says_too_much)))
says_cut bytes rest (Err e) (inr want) lacks says_too_much =
    absurd (false_count_needs_none bytes says_too_much (lacks (ap (λ (d : Error). refused {X = TypeData} d) want)))

-- ---- a list of fields, of which only the continuation is read

-- it is that of a list of fields which is read there, or the list is refused alike
pub list_continued : (bytes : List ℕ) (next : Option TypeIndex) (rest : List ℕ)
    → list_continuation_at bytes ≡ Ok (next, rest) → (fields : Fields)
    × (field_list_at bytes ≡ Ok (field_list fields next, rest))
list_continued bytes next rest is =
    let list = bind_ok (field_list_at bytes) (λ (list : TypeValue × List ℕ). ok {A = Option TypeIndex × List ℕ}
    (continuation_in list.0, list.1)) (next, rest) is in
    let entries = bind_ok (to_end field_at bytes)
    (λ (es : List Entry × List ℕ). ok {A = TypeValue × List ℕ} (field_list_of es.0, es.1)) list.0 list.1 in
    let made : (field_list_of entries.0.0, entries.0.1) ≡ list.0 =
    ok_is {A = TypeValue × List ℕ} (field_list_of entries.0.0, entries.0.1) list.0 entries.2 in
    let told : (continuation_in list.0.0, list.0.1) ≡ (next, rest) =
    ok_is {A = Option TypeIndex × List ℕ} (continuation_in list.0.0, list.0.1) (next, rest) list.2 in
    let same : (continuation_of entries.0.0, entries.0.1) ≡ (next, rest) =
    ap (λ (list : TypeValue × List ℕ). (continuation_in list.0, list.1)) made ∙ told in (
      fields_among entries.0.0,
      list.1 ∙ ap (λ (l : TypeValue × List ℕ). ok {A = TypeValue × List ℕ} l) (sym made)
          ∙ ap (λ (p : Option TypeIndex × List ℕ). ok {A = TypeValue × List ℕ}
          (field_list (fields_among entries.0.0) p.0, p.1)) same,
    )

pub list_refused : (bytes : List ℕ) (refusal : Refusal) → list_continuation_at bytes ≡ Err refusal
    → field_list_at bytes ≡ Err refusal
list_refused bytes refusal is = bind_err (field_list_at bytes)
    (λ (list : TypeValue × List ℕ). (continuation_in list.0, list.1)) refusal is

-- ---- a list of arguments that is skipped

pub arguments_listed : (bytes rest : List ℕ) → arguments_end bytes ≡ Ok rest → (list : List TypeIndex)
    × (behind_leaf argument_list_leaf bytes ≡ Ok (argument_list list, rest))
unfolding behind_leaf
arguments_listed bytes rest is =
    let list = bind_ok (counted_at Bits32 as_type bytes)
    (λ (list : List TypeIndex × List ℕ). ok {A = List ℕ} list.1) rest is in (
      list.0.0,
      bind_at (counted_at Bits32 as_type bytes)
          (λ list. ok {A = TypeValue × List ℕ} (argument_list list.0, list.1)) list.0 list.1
          ∙ ap (λ (end : List ℕ). ok {A = TypeValue × List ℕ} (argument_list list.0.0, end))
          (ok_is list.0.1 rest list.2),
    )

pub arguments_refused : (bytes : List ℕ) (refusal : Refusal) → arguments_end bytes ≡ Err refusal
    → behind_leaf argument_list_leaf bytes ≡ Err refusal
unfolding behind_leaf
arguments_refused bytes refusal is =
    bind_no (counted_at Bits32 as_type bytes)
    (λ list. ok {A = TypeValue × List ℕ} (argument_list list.0, list.1)) refusal
    (bind_err (counted_at Bits32 as_type bytes) (λ (list : List TypeIndex × List ℕ). list.1) refusal is)

-- ---- a record, step by step

-- what is read of a record behind its leaf is what is read of the record
pub reads_list : (bytes mid : List ℕ) (number : ℕ) → number_at 2 bytes ≡ Ok (number, mid) → number ≡ field_list_leaf
    → field_list_at mid ≡ record_at bytes
unfolding record_at
reads_list bytes mid number leaf is =
    sym (bind_at (number_at 2 bytes) (λ n. record_of (n.0 == field_list_leaf) n.0 n.1) (number, mid) leaf
    ∙ ap (λ (n : ℕ). record_of (n == field_list_leaf) n mid) is)

pub reads_other : (bytes mid : List ℕ) (number : ℕ) → number_at 2 bytes ≡ Ok (number, mid) → number ≢ field_list_leaf
    → behind_leaf number mid ≡ record_at bytes
unfolding record_at
reads_other bytes mid number leaf other =
    sym (bind_at (number_at 2 bytes) (λ n. record_of (n.0 == field_list_leaf) n.0 n.1) (number, mid) leaf
    ∙ ap (λ (test : Bool). record_of test number mid) (ne_eqb number field_list_leaf other))

-- no leaf is left
pub reads_none : (bytes rest : List ℕ) (result : Result TypeData Error) (cause : Error)
    → number_at 2 bytes ≡ Err (refusal_of cause) → IsErrAnd result (λ e. e ≡ cause)
    → Answers (λ t. (type_value t, rest)) result (record_at bytes)
unfolding record_at
reads_none bytes rest result cause none passed =
    rw (passed_on result cause passed) (inl (bind_no (number_at 2 bytes)
    (λ n. record_of (n.0 == field_list_leaf) n.0 n.1) (refusal_of cause) none))

pub none_no_want : (bytes : List ℕ) (result : Result TypeData Error) (cause : Error)
    → number_at 2 bytes ≡ Err (refusal_of cause) → IsErrAnd result (λ e. e ≡ cause)
    → LacksOnlyIf result (NeedsMemory bytes)
none_no_want bytes result cause none passed =
    passes_no_want (number_at 2 bytes) result cause (NeedsMemory bytes) (number_no_want 2 bytes) none passed
