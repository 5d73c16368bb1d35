-- Where calls lack memory, and that counts that say too much need none.
use Rattle.std.specs.Prelude.{IsErrAnd}
use Rattle.std.proofs.lemmas.Bool.{false≢true, eq-eqb, ne_eqb}
use Rattle.std.proofs.Common.{◌≡◌, ◌≢◌, ◌⊎◌, inl, inr, ℕ, ◌*◌, ◌<◌, ◌==◌, Bool, true, false, List, [], ◌∷◌, ◌++◌}
use Rattle.std.proofs.Common.{length, refl, sym, ap, ◌∙◌, subst, arith, length-append, Option, Some, None, Result, Ok}
use Rattle.std.proofs.Common.{Err}
use Rattle.pdb_base.specs.declared.error.Error.{Error}
use Rattle.pdb_base.specs.declared.error.Error.TheVariants.{OutOfMemory}
use Rattle.pdb_base.specs.declared.index.TypeIndex.{TypeIndex}
use Rattle.pdb_base.specs.Refusal.{Refusal, refusal_of, out_of_memory, unexpected_eof}
use Rattle.pdb_base.specs.Answer.{Answer, Gives, ◌>>=◌}
use Rattle.pdb_base.specs.Memory.{LacksOnlyIf}
use Rattle.pdb_base.specs.Spelling.{Begins}
use Rattle.pdb_base.specs.Reading.{number_at}
use Rattle.pdb_base.proofs.lemmas.Collected.{ok, err, ok_is, err_is, ok_is_no_err}
use Rattle.pdb_base.proofs.lemmas.Refused.{passed_on}
use Rattle.pdb_records.specs.Shape.{u16, u32, type_index, when, Spells, as_type, read_shape}
use Rattle.pdb_records.specs.Row.{Row, row}
use Rattle.pdb_records.specs.ToEnd.{Sequence, to_end}
use Rattle.pdb_records.specs.Padding.{padding_at}
use Rattle.pdb_records.specs.Dimensions.{dimension_at}
use Rattle.pdb_records.proofs.Agreeing.{bind_at, bind_no}
use Rattle.pdb_records.proofs.ShapeLaws.{shapes}
use Rattle.pdb_records.proofs.NoWant.{row_no_want}
use Rattle.pdb_records.proofs.StepLemmas.{to_end_starts, to_end_stops}
use Rattle.pdb_records.proofs.DimensionLaws.{dimension_agrees}
use Rattle.pdb_values.specs.declared.method.MethodListEntry.{MethodListEntry}
use Rattle.pdb_values.specs.TypeValue.{PlainValue, TypeValue}
use Rattle.pdb_values.specs.TypeValue as values
use Rattle.pdb_values.specs.IdValue.{PlainIdValue}
use Rattle.pdb_values.specs.IdValue as ids
use Rattle.pdb_records.specs.Rows.{listed_method_row}
use Rattle.pdb_records.specs.Records.{plain_at, behind_leaf}
use Rattle.pdb_records.specs.Ids.{plain_id_at}
use Rattle.pdb_records.specs.Fields.{Entry, field, continues, entry_of, field_at, field_list_of, record_of, record_at}
use Rattle.pdb_records.specs.Fields.{continuation_leaf, field_list_leaf}
use Rattle.pdb_records.specs.Lists.{array_row}
use Rattle.pdb_records.specs.Memory.{HoldsMethod, HoldsDimension, HoldsArray, BeginsField, IsContinuation, HoldsField}
use Rattle.pdb_records.specs.Memory.{HoldsItemBehind, RecordHoldsItem, NeedsMemoryOf, NeedsMemory, argument_list_leaf}
use Rattle.pdb_records.specs.Memory.{IsFalseCount}
use Rattle.pdb_records.specs.Claims.{ClaimsMore}
use Rattle.pdb_records.proofs.GrammarLaws.{field_agrees}
use Rattle.pdb_records.specs.declared.parse.counted.CountWidth.TheVariants.{Bits32}
use Rattle.pdb_records.specs.Counted.{counted_at}
use Rattle.pdb_records.specs.Grammar.{IsEntry}
use Rattle.pdb_records.proofs.CountedLemmas.{types_agree, counted_short}
use Rattle.pdb_records.proofs.ListLemmas.{refused, cause_is, methods_agree}

-- ---- what is refused is no want of memory

pub no_want : {A : Type 0} (meant : Answer A) (cause : Error) → meant ≢ Err out_of_memory
    → meant ≡ Err (refusal_of cause) → cause ≢ OutOfMemory
no_want {A} meant cause never is want = never (is ∙ ap (λ (e : Error). err {A = A} (refusal_of e)) want)

-- a refusal that is answered, as it is or passed on
pub refusal_no_want : {A X : Type 0} (meant : Answer A) (cause : Error) (needed : Type 0) → meant ≢ Err out_of_memory
    → meant ≡ Err (refusal_of cause) → LacksOnlyIf (refused {X = X} cause) needed
refusal_no_want meant cause needed never is want =
    absurd (no_want meant cause never is (cause_is cause OutOfMemory want))

-- a call that takes no memory doesn't lack it
pub gives_no_want : {X A : Type 0} (view : X → A) (result : Result X Error) (meant : Answer A) (needed : Type 0)
    → meant ≢ Err out_of_memory → Gives view result meant → LacksOnlyIf result needed
gives_no_want {X} view (Ok x) meant needed never is want = absurd cc
gives_no_want {X} view (Err e) meant needed never is want =
    absurd (no_want meant e never is (cause_is e OutOfMemory want))

-- nor does a call that passes a refusal on
pub passes_no_want : {A X : Type 0} (meant : Answer A) (result : Result X Error) (cause : Error) (needed : Type 0)
    → meant ≢ Err out_of_memory → meant ≡ Err (refusal_of cause) → IsErrAnd result (λ e. e ≡ cause)
    → LacksOnlyIf result needed
passes_no_want meant result cause needed never is passed want =
    absurd (no_want meant cause never is (cause_is cause OutOfMemory (sym (passed_on result cause passed) ∙ want)))

-- a refusal that is passed on lacks memory where its call does
pub wants_on : {X Y : Type 0} (result : Result Y Error) (cause : Error) (needed : Type 0)
    → LacksOnlyIf (refused {X = X} cause) needed → IsErrAnd result (λ e. e ≡ cause) → LacksOnlyIf result needed
wants_on {X} result cause needed held passed want =
    held (ap (λ (e : Error). refused {X = X} e)
    (cause_is cause OutOfMemory (sym (passed_on result cause passed) ∙ want)))

-- nor does a row that makes a value
made_no_want : {A B : Type 0} (made : A → B) (read : Answer (A × List ℕ)) → read ≢ Err out_of_memory
    → (read >>= λ value. ok {A = B × List ℕ} (made value.0, value.1)) ≢ Err out_of_memory
made_no_want {A} {B} made (Ok value) never is = ok_is_no_err {A = B × List ℕ} (made value.0, value.1) out_of_memory is
made_no_want {A} {B} made (Err e) never is =
    never (ap (λ (d : Refusal). err {A = A × List ℕ} d) (err_is {A = B × List ℕ} e out_of_memory is))

pub plain_no_want : (r : Row PlainValue) (bytes : List ℕ) → plain_at r bytes ≢ Err out_of_memory
plain_no_want r bytes = made_no_want values.plain (row r bytes) (row_no_want r bytes)

pub plain_id_no_want : (r : Row PlainIdValue) (bytes : List ℕ) → plain_id_at r bytes ≢ Err out_of_memory
plain_id_no_want r bytes = made_no_want ids.plain (row r bytes) (row_no_want r bytes)

-- ---- the first item of a list

pub method_there : (bytes : List ℕ) (method : MethodListEntry) (rest : List ℕ)
    → row listed_method_row bytes ≡ Ok (method, rest) → HoldsMethod bytes
method_there bytes method rest is = (method, rest, methods_agree.found bytes method rest is)

pub dimension_there : (bytes : List ℕ) (n : ℕ) (rest : List ℕ) → dimension_at bytes ≡ Ok (n, rest)
    → HoldsDimension bytes
dimension_there bytes n rest is = (n, rest, dimension_agrees.found bytes n rest is)

-- Of a list it is known that nothing was read yet, or that it holds an item; once an item was read, it
-- holds one.
pub holds_now : (Holds : List ℕ → Type 0) (now start : List ℕ) → (now ≡ start) ⊎ Holds start → Holds now → Holds start
holds_now Holds now start (inl same) there = subst Holds same there
holds_now Holds now start (inr there) now_there = there

-- ---- lists of fields

-- Of a list of fields it is known that all entries so far only say which list goes on, or that it holds an
-- item.
abbrev pub NoFieldYet : List ℕ → List ℕ → Type 0
NoFieldYet start now = ((indexes : List TypeIndex) × Sequence IsContinuation start indexes now) ⊎ HoldsField start

-- one more
sequence_push : (indexes : List TypeIndex) (index : TypeIndex) (start now rest : List ℕ)
    → Sequence IsContinuation start indexes now → IsContinuation now index rest
    → Sequence IsContinuation start (indexes ++ index ∷ []) rest
sequence_push [] index start now rest same is =
    (rest, subst (λ (bytes : List ℕ). IsContinuation bytes index rest) (sym same) is, refl)
sequence_push (first ∷ indexes) index start now rest seq is =
    (seq.0, seq.1, sequence_push indexes index seq.0 now rest seq.2 is)

pub continuation_behind : (start now : List ℕ) (index : TypeIndex) (rest : List ℕ) → NoFieldYet start now
    → field_at now ≡ Ok (continues index, rest) → NoFieldYet start rest
continuation_behind start now index rest (inl none) is =
    inl (
      none.0 ++ index ∷ [],
      sequence_push none.0 index start now rest none.1
          (field_agrees.found now (continues index) rest is),
    )
continuation_behind start now index rest (inr holds) is = inr holds

-- a field, or an item of the list that its record is, counts where no other field is before it
holds_behind : (start now : List ℕ) → NoFieldYet start now → BeginsField now ⊎ RecordHoldsItem now → HoldsField start
holds_behind start now (inl none) there = (none.0, now, none.1, there)
holds_behind start now (inr holds) there = holds

pub field_there : (start now : List ℕ) (value : TypeValue) (rest : List ℕ) → NoFieldYet start now
    → field_at now ≡ Ok (field value, rest) → HoldsField start
field_there start now value rest none is =
    holds_behind start now none (inl (value, rest, field_agrees.found now (field value) rest is))

pub field_holds : (start now : List ℕ) → NoFieldYet start now → RecordHoldsItem now → HoldsField start
field_holds start now none there = holds_behind start now none (inr there)

-- ---- arrays

pub stride_read : (strided : Bool) (bytes : List ℕ) (n : ℕ) (rest : List ℕ) → strided ≡ true
    → number_at 4 bytes ≡ Ok (n, rest) → read_shape (when strided u32) bytes ≡ Ok (Some n, rest)
stride_read true bytes n rest there is = bind_at (number_at 4 bytes) (λ x. ok (Some x.0, x.1)) (n, rest) is
stride_read false bytes n rest there is = absurd (false≢true there)

pub no_stride_read : (strided : Bool) (bytes : List ℕ) → strided ≡ false
    → read_shape (when strided u32) bytes ≡ Ok (None, bytes)
no_stride_read true bytes none = absurd (false≢true (sym none))
no_stride_read false bytes none = refl

pub array_there : (strided : Bool) (bytes : List ℕ) (element : TypeIndex) (mid : List ℕ) (indexing : TypeIndex)
    (end : List ℕ) (stride : Option ℕ) (rest : List ℕ)
    → read_shape type_index bytes ≡ Ok (element, mid) → read_shape type_index mid ≡ Ok (indexing, end)
    → read_shape (when strided u32) end ≡ Ok (stride, rest) → HoldsDimension rest → HoldsArray strided bytes
unfolding array_row
array_there strided bytes element mid indexing end stride rest first second third there = (
  record { element_type = element; indexing_type = indexing; stride = stride },
  rest,
  (
    element,
    mid,
    (shapes type_index).found bytes element mid first,
    (
      indexing,
      end,
      (shapes type_index).found mid indexing end second,
      (stride, rest, (shapes (when strided u32)).found end stride rest third, (refl, refl)),
    ),
  ),
  there,
)

-- ---- whole records

pub needs_fields : (bytes : List ℕ) (number : ℕ) (mid : List ℕ) → number_at 2 bytes ≡ Ok (number, mid)
    → number ≡ field_list_leaf → HoldsField mid → NeedsMemory bytes
needs_fields bytes number mid is list there =
    let test : (number == field_list_leaf) ≡ true = eq-eqb number field_list_leaf list in (
      number,
      mid,
      (shapes u16).found bytes number mid is,
      subst (λ (b : Bool). NeedsMemoryOf b number mid) (sym test) there,
    )

pub needs_behind : (bytes : List ℕ) (number : ℕ) (mid : List ℕ) → number_at 2 bytes ≡ Ok (number, mid)
    → number ≢ field_list_leaf → HoldsItemBehind number mid → NeedsMemory bytes
needs_behind bytes number mid is other there =
    let test : (number == field_list_leaf) ≡ false = ne_eqb number field_list_leaf other in (
      number,
      mid,
      (shapes u16).found bytes number mid is,
      subst (λ (b : Bool). NeedsMemoryOf b number mid) (sym test) there,
    )

-- ---- counts that say too much

-- the record of such a list of arguments is refused
behind_false : (bytes : List ℕ) (count : ℕ) (rest : List ℕ) → Begins (Spells u32) bytes count rest
    → length rest < 4 * count → behind_leaf argument_list_leaf bytes ≡ Err unexpected_eof
unfolding behind_leaf
behind_false bytes count rest begins short =
    bind_no (counted_at Bits32 as_type bytes) (λ list. ok (values.argument_list list.0, list.1)) unexpected_eof
    (counted_short Bits32 as_type bytes count rest begins short)

-- and holds nothing
none_behind : (bytes : List ℕ) (count : ℕ) (rest : List ℕ) → Begins (Spells u32) bytes count rest
    → length rest < 4 * count → ¬ HoldsItemBehind argument_list_leaf bytes
none_behind bytes count rest begins short there =
    ok_is_no_err (there.0, there.1) unexpected_eof
    (sym ((types_agree Bits32).only bytes there.0 there.1 there.2)
    ∙ counted_short Bits32 as_type bytes count rest begins short)

-- the number and the rest that bytes begin with are those that are read
one_number : (bytes : List ℕ) (m n : ℕ) (mid end : List ℕ) → Begins (Spells u16) bytes m mid
    → Begins (Spells u16) bytes n end → ◌≡◌ {A = ℕ × List ℕ} (m, mid) (n, end)
one_number bytes m n mid end first second =
    ok_is (m, mid) (n, end) (sym ((shapes u16).only bytes m mid first) ∙ (shapes u16).only bytes n end second)

-- as a record, and as an entry
entry_false : (bytes : List ℕ) → ClaimsMore argument_list_leaf 4 bytes → field_at bytes ≡ Err unexpected_eof
unfolding field_at
entry_false bytes is =
    let mid = is.0 in
    let refused = behind_false mid is.2.0 is.2.1 is.2.2 is.2.3 in
    bind_at (number_at 2 bytes) (λ number. entry_of (number.0 == continuation_leaf) number.0 number.1
    >>= λ entry. padding_at entry.1 >>= λ nothing. ok (entry.0, nothing.1)) (argument_list_leaf, mid)
    ((shapes u16).only bytes argument_list_leaf mid is.1)
    ∙ bind_no (entry_of false argument_list_leaf mid)
    (λ entry. padding_at entry.1 >>= λ nothing. ok (entry.0, nothing.1)) unexpected_eof
    (bind_no (behind_leaf argument_list_leaf mid) (λ value. ok (field value.0, value.1)) unexpected_eof refused)

list_false : (bytes : List ℕ) → ClaimsMore argument_list_leaf 4 bytes
    → record_of true field_list_leaf bytes ≡ Err unexpected_eof
list_false bytes is =
    bind_no (to_end field_at bytes) (λ entries. ok (field_list_of entries.0, entries.1)) unexpected_eof
    (to_end_starts field_at bytes ∙ to_end_stops field_at [] bytes unexpected_eof (some bytes is.1)
    (entry_false bytes is)) where
      some : (bytes : List ℕ) → Begins (Spells u16) bytes argument_list_leaf is.0 → bytes ≢ []
      some bytes begins none = absurd (omega (
        arith,
        begins.spelled.len,
        length-append begins.front is.0,
        ap length begins.is,
        ap length none,
      ))

pub false_count_read : (bytes : List ℕ) → IsFalseCount bytes → record_at bytes ≡ Err unexpected_eof
unfolding record_at
false_count_read bytes (inl is) =
    bind_at (number_at 2 bytes) (λ number. record_of (number.0 == field_list_leaf) number.0 number.1)
    (argument_list_leaf, is.0) ((shapes u16).only bytes argument_list_leaf is.0 is.1)
    ∙ behind_false is.0 is.2.0 is.2.1 is.2.2 is.2.3
false_count_read bytes (inr list) =
    bind_at (number_at 2 bytes) (λ number. record_of (number.0 == field_list_leaf) number.0 number.1)
    (field_list_leaf, list.0) ((shapes u16).only bytes field_list_leaf list.0 list.1)
    ∙ list_false list.0 list.2

-- a record with a false count holds no item, so that it needs no memory
record_holds_none : (bytes : List ℕ) → ClaimsMore argument_list_leaf 4 bytes → ¬ RecordHoldsItem bytes
record_holds_none bytes is there =
    let same = one_number bytes there.0 argument_list_leaf there.1 is.0 there.2 is.1 in
    none_behind is.0 is.2.0 is.2.1 is.2.2 is.2.3 (subst (λ (p : ℕ × List ℕ). HoldsItemBehind p.0 p.1) same there.3)

-- it is no entry
no_entry : (bytes : List ℕ) → ClaimsMore argument_list_leaf 4 bytes → (entry : Entry) (rest : List ℕ)
    → ¬ IsEntry bytes entry rest
no_entry bytes is entry rest there = ok_is_no_err (entry, rest) unexpected_eof
    (sym (field_agrees.only bytes entry rest there) ∙ entry_false bytes is)

none_here : (bytes : List ℕ) → ClaimsMore argument_list_leaf 4 bytes → BeginsField bytes ⊎ RecordHoldsItem bytes → ⊥
none_here bytes is (inl there) = no_entry bytes is (field there.0) there.1 there.2
none_here bytes is (inr there) = record_holds_none bytes is there

none_behind_entries : (bytes : List ℕ) → ClaimsMore argument_list_leaf 4 bytes
    → (indexes : List TypeIndex) (mid : List ℕ) → Sequence IsContinuation bytes indexes mid → BeginsField mid
    ⊎ RecordHoldsItem mid → ⊥
none_behind_entries bytes is [] mid same there =
    none_here bytes is (subst (λ (b : List ℕ). BeginsField b ⊎ RecordHoldsItem b) (sym same) there)
none_behind_entries bytes is (index ∷ indexes) mid seq there = no_entry bytes is (continues index) seq.0 seq.1

-- nor does a list of fields hold an item that begins with it
list_holds_none : (bytes : List ℕ) → ClaimsMore argument_list_leaf 4 bytes → ¬ HoldsField bytes
list_holds_none bytes is holds = none_behind_entries bytes is holds.0 holds.1 holds.2 holds.3

pub false_count_needs_none : (bytes : List ℕ) → IsFalseCount bytes → ¬ NeedsMemory bytes
false_count_needs_none bytes (inl is) there =
    let same = one_number bytes there.0 argument_list_leaf there.1 is.0 there.2 is.1 in
    none_behind is.0 is.2.0 is.2.1 is.2.2 is.2.3
    (subst (λ (p : ℕ × List ℕ). NeedsMemoryOf (p.0 == field_list_leaf) p.0 p.1) same there.3)
false_count_needs_none bytes (inr list) there =
    let same = one_number bytes there.0 field_list_leaf there.1 list.0 there.2 list.1 in
    list_holds_none list.0 list.2 (subst (λ (p : ℕ × List ℕ). NeedsMemoryOf
    (p.0 == field_list_leaf) p.0 p.1) same there.3)
