use Rattle.std.proofs.Common.{◌≡◌, ◌≢◌, ℕ, List, [], ◌∷◌, ◌++◌, inl, inr, refl, ap, ◌∙◌, Option}
use Rattle.std.proofs.lemmas.Bool.{false≢true}
use Rattle.pdb_base.specs.Place.{left}
use Rattle.pdb_base.specs.Reading.{number_at}
use Rattle.pdb_base.specs.declared.index.TypeIndex.{TypeIndex}
use Rattle.pdb_base.proofs.lemmas.Collected.{ok}
use Rattle.pdb_base.proofs.lemmas.Refused.{passed_on}
use Rattle.pdb_values.specs.TypeValue.{TypeValue, Fields}
use Rattle.pdb_values.specs.TypeValue as values
use Rattle.pdb_values.specs.TypeView.{type_value, fields_value}
use Rattle.pdb_records.specs.Row.{row}
use Rattle.pdb_records.specs.Rows.{continuation_row}
use Rattle.pdb_records.specs.Shape.{u16}
use Rattle.pdb_records.specs.Padding.{padding_at}
use Rattle.pdb_records.specs.Fields.{field, continues, continuation_of}
use Rattle.pdb_records.proofs.ShapeLaws.{shapes}
use Rattle.pdb_records.proofs.NoWant.{number_no_want, row_no_want, padding_no_want}
use Rattle.pdb_records.proofs.FieldLemmas.{fields_more, fields_same, continuation_same, continuation_last, no_leaf}
use Rattle.pdb_records.proofs.FieldLemmas.{continuation_at, no_continuation, cut_continuation, one_field_at, no_field}
use Rattle.pdb_records.proofs.FieldLemmas.{cut_field, entries_step, entry_shorter, field_list_all, skip_all, skip_stops}
use Rattle.pdb_records.proofs.MemoryLemmas.{passes_no_want, wants_on, continuation_behind, field_there, field_holds}
use Rattle.pdb_records.proofs.parse.fields.parse_entries.Goals.{then-len-capacity+in_ok-reserve, else-len-capacity}
use Rattle.pdb_records.proofs.parse.fields.parse_entries.Goals as goal

-- ---- no leaf

pub returns-in_err-number-clause-read : goal.returns-in_err-number-clause-read
returns-in_err-number-clause-read c =
    let some : left c.entries.buffer ≢ [] = λ none. false≢true (c.entries-test.ensures.1 none) in
    let refused = no_leaf (left c.entries.buffer) _ c.in_err-number.ensures.read in
    rw (passed_on _ _ c.from_residual.ensures.1)
    (inl (skip_stops (left c.args.buffer.now) c.entries.invariant.entries
    (left c.entries.buffer) _ c.entries.invariant.all some refused))

pub returns-in_err-number-clause-memory : goal.returns-in_err-number-clause-memory
returns-in_err-number-clause-memory c =
    passes_no_want (number_at 2 (left c.entries.buffer)) _ _ _
    (number_no_want 2 (left c.entries.buffer)) c.in_err-number.ensures.read c.from_residual.ensures.1

-- ---- the list that continues this one

pub returns-in_err-parse_continuation-clause-read : goal.returns-in_err-parse_continuation-clause-read
returns-in_err-parse_continuation-clause-read c =
    let some : left c.entries.buffer ≢ [] = λ none. false≢true (c.entries-test.ensures.1 none) in
    let leaf = rw c.if-number-eq-LF_INDEX.true at c.in_ok-number.ensures.read in
    let refused = no_continuation (left c.entries.buffer)
    (left c.parse_u16.new.self) _ leaf c.in_err-parse_continuation.ensures in
    rw (passed_on _ _ c.from_residual-in_err-parse_continuation.ensures.1)
    (inl (skip_stops (left c.args.buffer.now) c.entries.invariant.entries
    (left c.entries.buffer) _ c.entries.invariant.all some refused))

pub returns-in_err-parse_continuation-clause-memory : goal.returns-in_err-parse_continuation-clause-memory
returns-in_err-parse_continuation-clause-memory c =
    let mid = left c.parse_u16.new.self in
    passes_no_want (row continuation_row mid) _ _ _
    (row_no_want continuation_row mid) c.in_err-parse_continuation.ensures
    c.from_residual-in_err-parse_continuation.ensures.1

pub returns-in_err-skip_padding-clause-read : goal.returns-in_err-skip_padding-clause-read
returns-in_err-skip_padding-clause-read c =
    let some : left c.entries.buffer ≢ [] = λ none. false≢true (c.entries-test.ensures.1 none) in
    let leaf = rw c.if-number-eq-LF_INDEX.true at c.in_ok-number.ensures.read in
    let refused = cut_continuation (left c.entries.buffer)
    (left c.parse_u16.new.self) _ _ _ leaf c.in_ok-parse_continuation.ensures c.in_err-skip_padding.ensures in
    rw (passed_on _ _ c.from_residual-in_err-skip_padding.ensures.1)
    (inl (skip_stops (left c.args.buffer.now) c.entries.invariant.entries
    (left c.entries.buffer) _ c.entries.invariant.all some refused))

pub returns-in_err-skip_padding-clause-memory : goal.returns-in_err-skip_padding-clause-memory
returns-in_err-skip_padding-clause-memory c =
    let end = left c.parse_continuation.new.buffer in
    passes_no_want (padding_at end) _ _ _ (padding_no_want end) c.in_err-skip_padding.ensures
    c.from_residual-in_err-skip_padding.ensures.1

pub entries-smaller-then-number-eq-LF_INDEX : goal.entries-smaller-then-number-eq-LF_INDEX
entries-smaller-then-number-eq-LF_INDEX c =
    let leaf = rw c.if-number-eq-LF_INDEX.true at c.in_ok-number.ensures.read in
    entry_shorter (left c.entries.buffer) _ _
    (continuation_at (left c.entries.buffer) (left c.parse_u16.new.self) _ _ _ leaf
    c.in_ok-parse_continuation.ensures c.in_ok-skip_padding.ensures)

pub entries-preserved-then-number-eq-LF_INDEX : goal.entries-preserved-then-number-eq-LF_INDEX
entries-preserved-then-number-eq-LF_INDEX c =
    let so_far = c.entries.invariant in
    let index = c.in_ok-parse_continuation.field-0 in
    let leaf = rw c.if-number-eq-LF_INDEX.true at c.in_ok-number.ensures.read in
    let read = continuation_at (left c.entries.buffer)
    (left c.parse_u16.new.self) index _ _ leaf c.in_ok-parse_continuation.ensures c.in_ok-skip_padding.ensures in
    record {
      entries = so_far.entries ++ continues index ∷ [];
      all = so_far.all ∙ entries_step so_far.entries (left c.entries.buffer) (continues index)
          (left c.skip_padding.new.buffer) read;
      fields = λ keep. fields_same so_far.entries index ∙ so_far.fields keep;
      continuation = continuation_last so_far.entries index;
      begun = continuation_behind (left c.args.buffer.now) (left c.entries.buffer) _ _ so_far.begun read;
    }

-- ---- a field

pub returns-in_err-field-clause-read : goal.returns-in_err-field-clause-read
returns-in_err-field-clause-read c =
    let some : left c.entries.buffer ≢ [] = λ none. false≢true (c.entries-test.ensures.1 none) in
    rw (passed_on _ _ c.from_residual-in_err-field.ensures.1) (elim c.in_err-field.ensures.read [
      | inl refused ↦
          let stops = no_field (left c.entries.buffer) _ _ _ c.in_ok-number.ensures.read c.if-number-eq-LF_INDEX.false
          refused in
          inl (skip_stops (left c.args.buffer.now) c.entries.invariant.entries
          (left c.entries.buffer) _ c.entries.invariant.all some stops)
      | inr want ↦ inr want
    ])

pub returns-in_err-field-clause-memory : goal.returns-in_err-field-clause-memory
returns-in_err-field-clause-memory c = λ want.
    field_holds (left c.args.buffer.now) (left c.entries.buffer) c.entries.invariant.begun (
      c.in_ok-number.number,
      left c.parse_u16.new.self,
      (shapes u16).found (left c.entries.buffer) _ _ c.in_ok-number.ensures.read,
      wants_on _ _ _ c.in_err-field.ensures.memory c.from_residual-in_err-field.ensures.1 want,
    )

pub returns-in_err-skip_padding-2-clause-read : goal.returns-in_err-skip_padding-2-clause-read
returns-in_err-skip_padding-2-clause-read c =
    let some : left c.entries.buffer ≢ [] = λ none. false≢true (c.entries-test.ensures.1 none) in
    let refused = cut_field (left c.entries.buffer) _ _ _ _ _ c.in_ok-number.ensures.read c.if-number-eq-LF_INDEX.false
    c.in_ok-field.ensures.read c.in_err-skip_padding-2.ensures in
    rw (passed_on _ _ c.from_residual-in_err-skip_padding-2.ensures.1)
    (inl (skip_stops (left c.args.buffer.now) c.entries.invariant.entries
    (left c.entries.buffer) _ c.entries.invariant.all some refused))

pub returns-in_err-skip_padding-2-clause-memory : goal.returns-in_err-skip_padding-2-clause-memory
returns-in_err-skip_padding-2-clause-memory c =
    let end = left c.parse_behind_leaf.new.buffer in
    passes_no_want (padding_at end) _ _ _ (padding_no_want end) c.in_err-skip_padding-2.ensures
    c.from_residual-in_err-skip_padding-2.ensures.1

pub returns-in_err-reserve-clause-memory : goal.returns-in_err-reserve-clause-memory
returns-in_err-reserve-clause-memory c = λ want.
    let read = one_field_at (left c.entries.buffer) _ _ _ _ _ c.in_ok-number.ensures.read c.if-number-eq-LF_INDEX.false
    c.in_ok-field.ensures.read c.in_ok-skip_padding-2.ensures in
    field_there (left c.args.buffer.now) (left c.entries.buffer) _ _ c.entries.invariant.begun read

pub entries-smaller-then-keep : goal.entries-smaller-then-keep
entries-smaller-then-keep c =
    let read = one_field_at (left c.entries.buffer) _ _ _ _ _ c.in_ok-number.ensures.read c.if-number-eq-LF_INDEX.false
    c.in_ok-field.ensures.read c.in_ok-skip_padding-2.ensures in
    entry_shorter (left c.entries.buffer) _ _ read

pub entries-preserved-then-keep : goal.entries-preserved-then-keep
entries-preserved-then-keep c =
    let so_far = c.entries.invariant in
    let value = type_value c.in_ok-field.field in
    let read = one_field_at (left c.entries.buffer) _ _ value _ _ c.in_ok-number.ensures.read
    c.if-number-eq-LF_INDEX.false c.in_ok-field.ensures.read c.in_ok-skip_padding-2.ensures in
    let kept : c.if-len-capacity.fields.items ≡ c.entries.fields.items = elim c.if-len-capacity.branch [
      | then-len-capacity+in_ok-reserve w ↦ rw w.fields-is w.reserve.ensures.items
      | else-len-capacity w ↦ rw w.fields-is refl
    ] in
    rw (c.push_reserved.ensures.items, kept) (record {
      entries = so_far.entries ++ field value ∷ [];
      all = so_far.all ∙ entries_step so_far.entries (left c.entries.buffer) (field value)
          (left c.skip_padding-in-entries.new.buffer) read;
      fields = λ keep. fields_more so_far.entries c.entries.fields.items c.in_ok-field.field (so_far.fields keep);
      continuation = continuation_same so_far.entries value ∙ so_far.continuation;
      begun = inr (field_there (left c.args.buffer.now) (left c.entries.buffer) _ _ so_far.begun read);
    })

pub entries-smaller : goal.entries-smaller
entries-smaller c =
    let read = one_field_at (left c.entries.buffer) _ _ _ _ _ c.in_ok-number.ensures.read c.if-number-eq-LF_INDEX.false
    c.in_ok-field.ensures.read c.in_ok-skip_padding-2.ensures in
    entry_shorter (left c.entries.buffer) _ _ read

pub entries-preserved : goal.entries-preserved
entries-preserved c =
    let so_far = c.entries.invariant in
    let value = type_value c.in_ok-field.field in
    let read = one_field_at (left c.entries.buffer) _ _ value _ _ c.in_ok-number.ensures.read
    c.if-number-eq-LF_INDEX.false c.in_ok-field.ensures.read c.in_ok-skip_padding-2.ensures in
    record {
      entries = so_far.entries ++ field value ∷ [];
      all = so_far.all ∙ entries_step so_far.entries (left c.entries.buffer) (field value)
          (left c.skip_padding-in-entries.new.buffer) read;
      fields = λ keep. absurd cc;
      continuation = continuation_same so_far.entries value ∙ so_far.continuation;
      begun = inr (field_there (left c.args.buffer.now) (left c.entries.buffer) _ _ so_far.begun read);
    }

-- ---- the end of the bytes

pub returns-clause-read : goal.returns-clause-read
returns-clause-read c =
    let so_far = c.entries.invariant in
    skip_all (left c.args.buffer.now) so_far.entries (left c.entries.buffer) so_far.all (c.entries-test.ensures.0 refl)
    ∙ ap (λ (next : Option TypeIndex). ok {A = Option TypeIndex × List ℕ}
    (next, left c.entries.buffer)) so_far.continuation

pub returns-clause-kept : goal.returns-clause-kept
returns-clause-kept c = λ keep.
    let so_far = c.entries.invariant in
    field_list_all (left c.args.buffer.now) so_far.entries (left c.entries.buffer) so_far.all
    (c.entries-test.ensures.0 refl)
    ∙ ap (λ (v : Fields). ok {A = TypeValue × List ℕ}
    (values.field_list v (continuation_of so_far.entries), left c.entries.buffer)) (so_far.fields keep)
    ∙ ap (λ (o : Option TypeIndex). ok {A = TypeValue × List ℕ}
    (values.field_list (fields_value c.entries.fields.items) o, left c.entries.buffer)) so_far.continuation
