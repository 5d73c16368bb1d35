-- The numbers in a record, by what was read of it.
use Rattle.std.proofs.Common.{◌≡◌, ◌≢◌, ℕ, List, [], refl, sym, ap, ◌∙◌, arith, Option, Result, Ok, Err}
use Rattle.pdb_base.specs.{declared.index.TypeIndex.TypeIndex, declared.error.Error.Error, Answer.Answer}
use Rattle.pdb_base.specs.{Answer.Answers, Answer.◌>>=◌, Reading.number_at, Refusal.Refusal}
use Rattle.pdb_values.specs.TypeValue.{TypeValue, argument_list, field_list, no_field}
use Rattle.pdb_values.specs.{declared.type_data.TypeData.TypeData, TypeView.type_value}
use Rattle.pdb_records.specs.Fields.{field_list_leaf, list_continuation_at, record_at, type_record}
use Rattle.pdb_records.specs.{Memory.argument_list_leaf, Records.arguments_end, Records.behind_leaf}
use Rattle.pdb_records.proofs.lemmas.Whole.{arguments_listed, arguments_refused, list_continued, list_refused}
use Rattle.pdb_records.proofs.lemmas.Whole.{reads_list, reads_other, says_type}
use Rattle.pdb_handles.specs.{Copied.IsAnswerTold, declared.fault.Fault.Fault, declared.row.Row.Row, Row.type_info}

-- a record, of which what is left behind it doesn't count
whole : (bytes : List ℕ) (read : Answer (TypeValue × List ℕ)) → record_at bytes ≡ read
    → type_record bytes ≡ (read >>= λ r. Ok r.0)
unfolding type_record
whole bytes read is = rw is refl

pub no_leaf : (bytes : List ℕ) (refusal : Refusal) → number_at 2 bytes ≡ Err refusal → type_record bytes ≡ Err refusal
unfolding record_at
no_leaf bytes refusal none = whole bytes (Err refusal) (rw none refl)

pub other_record : (bytes mid rest : List ℕ) (number : ℕ) (read : Result TypeData Error)
    → number_at 2 bytes ≡ Ok (number, mid) → number ≢ field_list_leaf
    → Answers (λ t. (type_value t, rest)) read (behind_leaf number mid) → Answers type_value read (type_record bytes)
other_record bytes mid rest number read leaf other answers =
    let is : Answers (λ t. (type_value t, rest)) read (record_at bytes) =
    rw (reads_other bytes mid number leaf other) at answers in
    says_type bytes rest read is

-- what is written of a list of fields, whichever it is, by what was read of it
pub list_record : (bytes mid : List ℕ) (number : ℕ) (read : Answer (Option TypeIndex × List ℕ)) (old new : Row)
    (fault : Fault) → number_at 2 bytes ≡ Ok (number, mid) → number ≡ field_list_leaf
    → list_continuation_at mid ≡ read → IsAnswerTold (λ read. type_info (field_list no_field read.0)) read old fault new
    → IsAnswerTold (λ value. type_info value) (type_record bytes) old fault new
list_record bytes mid number (Ok (next, rest)) old new fault leaf is read told =
    let list = list_continued mid next rest read in
    let there : type_record bytes ≡ Ok (field_list list.0 next) =
    whole bytes (Ok (field_list list.0 next, rest)) (sym (reads_list bytes mid number leaf is) ∙ list.1) in
    rw there told
list_record bytes mid number (Err refusal) old new fault leaf is read told =
    rw (whole bytes (Err refusal) (sym (reads_list bytes mid number leaf is) ∙ list_refused mid refusal read)) told

no_fields : (number : ℕ) → number ≡ argument_list_leaf → number ≢ field_list_leaf
no_fields number is other = absurd (omega (arith, is, other))

pub arguments_record : (bytes mid : List ℕ) (number : ℕ) (read : Answer (List ℕ)) (old new : Row) (fault : Fault)
    → number_at 2 bytes ≡ Ok (number, mid) → number ≡ argument_list_leaf → arguments_end mid ≡ read
    → IsAnswerTold (λ rest. type_info (argument_list [])) read old fault new
    → IsAnswerTold (λ value. type_info value) (type_record bytes) old fault new
arguments_record bytes mid number (Ok rest) old new fault leaf is read told =
    let list = arguments_listed mid rest read in
    let other = reads_other bytes mid number leaf (no_fields number is) in
    let there : type_record bytes ≡ Ok (argument_list list.0) = whole bytes (Ok (argument_list list.0, rest))
    (sym other ∙ ap (λ (n : ℕ). behind_leaf n mid) is ∙ list.1) in
    rw there told
arguments_record bytes mid number (Err refusal) old new fault leaf is read told =
    let other = reads_other bytes mid number leaf (no_fields number is) in
    rw (whole bytes (Err refusal)
    (sym other ∙ ap (λ (n : ℕ). behind_leaf n mid) is ∙ arguments_refused mid refusal read)) told
