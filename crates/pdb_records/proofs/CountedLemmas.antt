-- Lists of indexes behind their count, of types and of ids alike.
use Rattle.std.specs.Prelude.{IsOkAnd}
use Rattle.std.proofs.lemmas.Bool.{cases_lt}
use Rattle.std.proofs.Common.{◌≡◌, ◌≢◌, inl, inr, ℕ, ◌*◌, ◌<◌, ◌≤◌, List, [], ◌∷◌, length, take, drop, sym, ap, ◌∙◌}
use Rattle.std.proofs.Common.{arith, length-append, Ok, Err}
use Rattle.pdb_base.specs.declared.error.Error.{Error}
use Rattle.pdb_base.specs.declared.error.Error.TheVariants.{OutOfMemory}
use Rattle.pdb_base.specs.declared.index.IdIndex.{IdIndex}
use Rattle.pdb_base.specs.declared.index.TypeIndex.{TypeIndex}
use Rattle.pdb_base.specs.Refusal.{Refusal, refusal_of, unexpected_eof, out_of_memory}
use Rattle.pdb_base.specs.Answer.{Answer, ◌>>=◌}
use Rattle.pdb_base.specs.Memory.{HasItem}
use Rattle.pdb_base.specs.Reading.{front_at, number_at}
use Rattle.pdb_base.specs.Repeated.{SpellsEach, read_times}
use Rattle.pdb_base.specs.Spelling.{SpellsNumber, Begins}
use Rattle.pdb_base.proofs.lemmas.Collected.{err, err_is, ok, ok_is, ok_is_no_err, answer_cases}
use Rattle.pdb_base.proofs.lemmas.Reading.{front_cut, front_whole, number_ends}
use Rattle.pdb_base.proofs.lemmas.Spelling.{numbers}
use Rattle.pdb_records.specs.Agreement.{Agrees}
use Rattle.pdb_records.specs.Row.{Row, Assigns, Stops, row}
use Rattle.pdb_records.specs.Shape.{SpellsIndex, SpellsTimes, as_id, as_type, index_at, id_index, type_index}
use Rattle.pdb_records.proofs.Agreeing.{bind_at, bind_no}
use Rattle.pdb_records.proofs.RowLaws.{rows}
use Rattle.pdb_records.specs.Records.{arguments_end}
use Rattle.pdb_records.proofs.StepLemmas.{indexes_end, indexes_short}
use Rattle.pdb_records.proofs.TakesLemmas.{begins_length}
use Rattle.pdb_records.specs.declared.parse.counted.CountWidth.{CountWidth}
use Rattle.pdb_records.specs.declared.parse.counted.CountWidth.TheVariants.{Bits16, Bits32}
use Rattle.pdb_records.specs.Counted.{count_bytes, counted_at}
use Rattle.pdb_records.specs.Lists.{counted_row}
use Rattle.pdb_records.specs.Memory.{HoldsIndexes}

-- ---- they are read as their row assigns them

pub types_agree : (width : CountWidth) → Agrees (counted_at width as_type) (Assigns (counted_row width type_index))
    (Stops (counted_row width type_index))
unfolding row counted_row
types_agree Bits16 = rows (counted_row Bits16 type_index)
types_agree Bits32 = rows (counted_row Bits32 type_index)

pub ids_agree_in_list : (width : CountWidth)
    → Agrees (counted_at width as_id) (Assigns (counted_row width id_index)) (Stops (counted_row width id_index))
unfolding row counted_row
ids_agree_in_list Bits16 = rows (counted_row Bits16 id_index)
ids_agree_in_list Bits32 = rows (counted_row Bits32 id_index)

-- ---- the count, and the indexes behind it

-- the indexes behind a count
abbrev pub behind_count : {A : Type 0} → (ℕ → A) → ℕ × List ℕ → Answer (List A × List ℕ)
behind_count said count = read_times (index_at said) count.0 count.1 >>= λ items. ok (items.0, items.1)

pub counted_is : {A : Type 0} (width : CountWidth) (said : ℕ → A) (bytes : List ℕ) (count : ℕ) (rest : List ℕ)
    (answer : Answer (List A × List ℕ))
    → number_at (count_bytes width) bytes ≡ Ok (count, rest) → read_times (index_at said) count rest ≡ answer
    → counted_at width said bytes ≡ answer
counted_is {A} width said bytes count rest (Ok items) is all =
    bind_at (number_at (count_bytes width) bytes) (behind_count said) (count, rest) is
    ∙ bind_at (read_times (index_at said) count rest) (λ xs. ok (xs.0, xs.1)) items all
counted_is {A} width said bytes count rest (Err e) is all =
    bind_at (number_at (count_bytes width) bytes) (behind_count said) (count, rest) is
    ∙ bind_no (read_times (index_at said) count rest) (λ xs. ok (xs.0, xs.1)) e all

-- a count that the bytes don't hold is refused
pub counted_short : {A : Type 0} (width : CountWidth) (said : ℕ → A) (bytes : List ℕ) (count : ℕ) (rest : List ℕ)
    → Begins (SpellsNumber (count_bytes width)) bytes count rest → length rest < 4 * count
    → counted_at width said bytes ≡ Err unexpected_eof
counted_short width said bytes count rest begins short =
    counted_is width said bytes count rest (Err unexpected_eof)
    ((numbers (count_bytes width)).only bytes count rest begins) (indexes_short said count rest short)

-- ---- a list with an index

-- where a list with an index is read, it is there
pub indexes_there : {A : Type 0} (read : List ℕ → Answer (List A × List ℕ)) (r : Row (List A))
    → Agrees read (Assigns r) (Stops r)
    → (bytes : List ℕ) → IsOkAnd (read bytes) (λ x. HasItem x.0) → HoldsIndexes r bytes
indexes_there read r agrees bytes whole = elim (answer_cases (read bytes)) [
  | inl there ↦ (there.0.0, there.0.1, agrees.found bytes there.0.0 there.0.1 there.1, rw there.1 at whole)
  | inr none ↦ absurd (rw none.1 at whole)
]

-- ---- how long such a list can be

each_length : {A : Type 0} (said : ℕ → A) (xs : List A) (front : List ℕ) → SpellsEach (SpellsIndex said) xs front
    → length front ≡ 4 * length xs
each_length said [] front is = ap length is
each_length said (x ∷ xs) front is =
    let four : length is.0 ≡ 4 = is.2.spelled.len in
    omega (arith, four, each_length said xs is.1 is.3, length-append is.0 is.1, ap length is.4)

times_length : {A : Type 0} (said : ℕ → A) (count : ℕ) (bytes : List ℕ) (xs : List A) (rest : List ℕ)
    → Begins (SpellsTimes (SpellsIndex said) count) bytes xs rest → 4 * length xs ≤ length bytes
times_length said count bytes xs rest begins =
    omega (
      arith,
      each_length said xs begins.front begins.spelled.each,
      begins_length (SpellsTimes (SpellsIndex said) count) bytes xs rest begins,
    )

-- no list has more indexes than a fourth of the bytes behind its count
pub types_few : (width : CountWidth) (bytes : List ℕ) (list : List TypeIndex) (rest : List ℕ)
    → Assigns (counted_row width type_index) bytes list rest → 4 * length list ≤ length bytes
unfolding counted_row
types_few Bits16 bytes list rest is =
    omega (
      arith,
      ap length is.3.3.0,
      begins_length (SpellsNumber 2) bytes is.0 is.1 is.2,
      times_length as_type is.0 is.1 is.3.0 is.3.1 is.3.2,
    )
types_few Bits32 bytes list rest is =
    omega (
      arith,
      ap length is.3.3.0,
      begins_length (SpellsNumber 4) bytes is.0 is.1 is.2,
      times_length as_type is.0 is.1 is.3.0 is.3.1 is.3.2,
    )

pub ids_few : (width : CountWidth) (bytes : List ℕ) (list : List IdIndex) (rest : List ℕ)
    → Assigns (counted_row width id_index) bytes list rest → 4 * length list ≤ length bytes
unfolding counted_row
ids_few Bits16 bytes list rest is =
    omega (
      arith,
      ap length is.3.3.0,
      begins_length (SpellsNumber 2) bytes is.0 is.1 is.2,
      times_length as_id is.0 is.1 is.3.0 is.3.1 is.3.2,
    )
ids_few Bits32 bytes list rest is =
    omega (
      arith,
      ap length is.3.3.0,
      begins_length (SpellsNumber 4) bytes is.0 is.1 is.2,
      times_length as_id is.0 is.1 is.3.0 is.3.1 is.3.2,
    )

-- ---- refusals

-- bytes that end too soon are not want of memory
pub number_is_no_want : (width : ℕ) (bytes : List ℕ) (cause : Error) → number_at width bytes ≡ Err (refusal_of cause)
    → cause ≢ OutOfMemory
number_is_no_want width bytes cause is want =
    let ends : refusal_of cause ≡ unexpected_eof = number_ends width bytes (refusal_of cause) is in
    let lacks : refusal_of cause ≡ out_of_memory = ap refusal_of want in
    two_refusals (sym lacks ∙ ends) where
      two_refusals : out_of_memory ≡ unexpected_eof → ⊥
      two_refusals same = cc

-- ---- a list of arguments that is skipped

skipped : (bytes : List ℕ) (count : ℕ) (rest : List ℕ) (answer : Answer (List TypeIndex × List ℕ))
    → number_at 4 bytes ≡ Ok (count, rest) → read_times (index_at as_type) count rest ≡ answer
    → arguments_end bytes ≡ (answer >>= λ list. ok list.1)
skipped bytes count rest answer is all = ap (λ (a : Answer (List TypeIndex × List ℕ)). a >>= λ list. ok list.1)
    (counted_is Bits32 as_type bytes count rest answer is all)

-- or its indexes are
pub cut_arguments : (bytes : List ℕ) (count : ℕ) (rest : List ℕ) (e : Refusal) → number_at 4 bytes ≡ Ok (count, rest)
    → front_at (4 * count) rest ≡ Err e → arguments_end bytes ≡ Err e
cut_arguments bytes count rest e is cut = elim (cases_lt (length rest) (4 * count)) [
  | inl short ↦
      let same : unexpected_eof ≡ e = err_is {A = List ℕ × List ℕ} unexpected_eof e
      (sym (front_cut (4 * count) rest short) ∙ cut) in
      skipped bytes count rest (Err unexpected_eof) is (indexes_short as_type count rest short)
      ∙ ap (λ (d : Refusal). err {A = List ℕ} d) same
  | inr fits ↦ absurd (ok_is_no_err (take (4 * count) rest, drop (4 * count) rest) e
      (sym (front_whole (4 * count) rest fits) ∙ cut))
]

pub skipped_arguments : (bytes : List ℕ) (count : ℕ) (rest front end : List ℕ) → number_at 4 bytes ≡ Ok (count, rest)
    → front_at (4 * count) rest ≡ Ok (front, end) → arguments_end bytes ≡ Ok end
skipped_arguments bytes count rest front end is read = elim (cases_lt (length rest) (4 * count)) [
  | inl short ↦ absurd (ok_is_no_err (front, end) unexpected_eof (sym read ∙ front_cut (4 * count) rest short))
  | inr fits ↦
      let list = indexes_end as_type count rest fits in
      let same : (take (4 * count) rest, drop (4 * count) rest) ≡ (front, end) =
      ok_is (take (4 * count) rest, drop (4 * count) rest) (front, end)
      (sym (front_whole (4 * count) rest fits) ∙ read) in
      skipped bytes count rest (Ok (list.0, drop (4 * count) rest)) is list.1
      ∙ ap (λ (p : List ℕ × List ℕ). ok p.1) same
]
