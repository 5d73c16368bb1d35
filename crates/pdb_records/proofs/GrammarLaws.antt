-- Records are read as the grammar assigns them.
use Rattle.std.proofs.Common.{◌≡◌, ◌≢◌, inl, inr, ℕ, ◌==◌, ◌≤◌, Bool, true, false, List, [], ◌∷◌, length, refl, sym, ap}
use Rattle.std.proofs.Common.{subst, arith, length-append, Option, Some, None, Ok, Err}
use Rattle.pdb_base.specs.Refusal.{Refusal, unexpected_eof}
use Rattle.pdb_base.specs.Answer.{◌>>=◌}
use Rattle.pdb_base.specs.Spelling.{SpellsNumber, Begins}
use Rattle.pdb_base.specs.Reading.{number_at}
use Rattle.pdb_base.proofs.lemmas.Collected.{ok, err, ok_is, err_is, ok_is_no_err}
use Rattle.pdb_records.specs.Agreement.{Agrees, NoTwoValues}
use Rattle.pdb_records.specs.Shape.{u16, Spells, as_type}
use Rattle.pdb_records.specs.Fault.{Refuses}
use Rattle.pdb_records.specs.Row.{Assigns, Stops, row}
use Rattle.pdb_records.specs.ToEnd.{TakesBytes, Sequence, Fills, FailsBehind, to_end}
use Rattle.pdb_records.specs.Padding.{BeginsPad, IsPadded, IsPaddedShort, padding_at}
use Rattle.pdb_records.specs.Dimensions.{AreDimensions, NoDimensions, dimensions_at}
use Rattle.pdb_records.proofs.Agreeing.{reworded, mapped, chained, one_value}
use Rattle.pdb_records.proofs.ShapeLaws.{shapes}
use Rattle.pdb_records.proofs.RowLaws.{rows}
use Rattle.pdb_records.proofs.ToEndLaws.{to_end_agrees}
use Rattle.pdb_records.proofs.PaddingLaws.{padding_agrees}
use Rattle.pdb_records.proofs.DimensionLaws.{dimensions_agree}
use Rattle.pdb_records.proofs.TakesLemmas.{TakesTwo, begins_length, row_leaves, two_takes}
use Rattle.pdb_records.specs.declared.leaf.Leaf.{Leaf}
use Rattle.pdb_records.specs.declared.leaf.Leaf.TheVariants.{Plain, ArgumentList, MethodList, Array}
use Rattle.pdb_values.specs.TypeValue.{TypeValue}
use Rattle.pdb_values.specs.TypeValue as values
use Rattle.pdb_records.specs.Rows.{listed_method_row, continuation_row}
use Rattle.pdb_records.specs.Lists.{arguments_row, array_row}
use Rattle.pdb_records.specs.Arrays.{array_of, end_of_bytes, dimensions_to_end, array_at}
use Rattle.pdb_records.specs.Leaves.{leaf_of, row_of}
use Rattle.pdb_records.specs.Counted.{counted_at}
use Rattle.pdb_records.specs.Known.{IsOfKnownLeaf}
use Rattle.pdb_records.specs.Records.{data_at, behind_leaf}
use Rattle.pdb_records.specs.Fields.{Entry, field, continues, field_list_of, entry_of, field_at, record_of, record_at}
use Rattle.pdb_records.specs.Fields.{continuation_leaf, field_list_leaf}
use Rattle.pdb_records.specs.Grammar.{AreLastDimensions, NoLastDimensions, IsArray, NoArray, IsData, NoData, IsBehind}
use Rattle.pdb_records.specs.Grammar.{NoBehind, IsEntryOf, NoEntryOf, IsEntry, NoEntry, IsRecordOf, NoRecordOf}
use Rattle.pdb_records.specs.Grammar.{IsRecord, NoRecord}
use Rattle.pdb_records.specs.declared.parse.counted.CountWidth.TheVariants.{Bits32}
use Rattle.pdb_records.proofs.CountedLemmas.{types_agree}
use Rattle.pdb_records.proofs.KnownLaws.{known_agrees}
use Rattle.pdb_records.proofs.ListLemmas.{methods_agree, method_takes}

-- ---- arrays

abbrev IsEnd : List ℕ → Unit {0} → List ℕ → Type 0
IsEnd bytes nothing rest = (bytes ≡ []) × (rest ≡ [])

abbrev NoEnd : List ℕ → Refusal → Type 0
NoEnd bytes e = (bytes ≢ []) × (e ≡ unexpected_eof)

found_end : (bytes : List ℕ) (nothing : Unit {0}) (rest : List ℕ) → end_of_bytes bytes ≡ Ok (nothing, rest)
    → IsEnd bytes nothing rest
found_end [] nothing rest is = (refl, sym (ap (λ (p : Unit {0} × List ℕ). p.1) (ok_is (tt, []) (nothing, rest) is)))
found_end (byte ∷ bytes) nothing rest is = absurd (ok_is_no_err (nothing, rest) unexpected_eof (sym is))

only_end : (bytes : List ℕ) (nothing : Unit {0}) (rest : List ℕ) → IsEnd bytes nothing rest
    → end_of_bytes bytes ≡ Ok (nothing, rest)
only_end [] nothing rest is = ap (λ (r : List ℕ). ok (tt, r)) (sym is.1)
only_end (byte ∷ bytes) nothing rest is = absurd (no_cons is.0) where
  no_cons : byte ∷ bytes ≡ [] → ⊥
  no_cons same = cc

failed_end : (bytes : List ℕ) (e : Refusal) → end_of_bytes bytes ≡ Err e → NoEnd bytes e
failed_end [] e is = absurd (ok_is_no_err (tt, []) e is)
failed_end (byte ∷ bytes) e is = (λ same. no_cons same, sym (err_is {A = Unit {0} × List ℕ} unexpected_eof e is)) where
  no_cons : byte ∷ bytes ≡ [] → ⊥
  no_cons same = cc

fails_end : (bytes : List ℕ) (e : Refusal) → NoEnd bytes e → end_of_bytes bytes ≡ Err e
fails_end [] e is = absurd (is.0 refl)
fails_end (byte ∷ bytes) e is = ap (λ (d : Refusal). err d) (sym is.1)

end_agrees : Agrees end_of_bytes IsEnd NoEnd
end_agrees = record { found = found_end; only = only_end; failed = failed_end; fails = fails_end }

last_agree : Agrees dimensions_to_end AreLastDimensions NoLastDimensions
unfolding dimensions_to_end
last_agree =
    reworded dimensions_to_end _ AreLastDimensions _ NoLastDimensions
    (chained dimensions_at AreDimensions NoDimensions
    (λ ns mid. padding_at mid >>= λ pads. end_of_bytes pads.1 >>= λ none. ok (ns, none.1)) _ _ dimensions_agree
    (λ ns. chained padding_at IsPadded IsPaddedShort
    (λ pads end. end_of_bytes end >>= λ none. ok (ns, none.1)) _ _ padding_agrees
    (λ pads. mapped (λ none. ns) end_of_bytes IsEnd NoEnd end_agrees)))
    (λ bytes ns rest is. subst (λ (ms : List ℕ). AreLastDimensions bytes ms rest) is.3.3.2
    (is.1, is.3.1, is.2, is.3.2, is.3.3.1.0, is.3.3.1.1))
    (λ bytes ns rest is. (ns, is.0, is.2, (tt, is.1, is.3, (tt, (is.4, is.5), refl))))
    (λ bytes e is. elim is [
      | inl first ↦ inl first
      | inr behind ↦ inr (
        behind.0,
        behind.1,
        behind.2,
        elim behind.3 [ inl cut ↦ inl cut | inr left ↦ inr (left.1, left.2, left.3.0, left.3.1) ],
      )
    ])
    (λ bytes e is. elim is [
      | inl first ↦ inl first
      | inr behind ↦ inr (
        behind.0,
        behind.1,
        behind.2,
        elim behind.3 [ inl cut ↦ inl cut | inr left ↦ inr (tt, left.0, left.1, (left.2, left.3)) ],
      )
    ])

pub array_agrees : (strided : Bool) → Agrees (array_at strided) (IsArray strided) (NoArray strided)
unfolding array_at
array_agrees strided =
    chained (row (array_row strided)) (Assigns (array_row strided)) (Stops (array_row strided))
    (λ head mid. dimensions_to_end mid >>= λ ns. ok (array_of head ns.0, ns.1)) _ _ (rows (array_row strided))
    (λ head. mapped (array_of head) dimensions_to_end AreLastDimensions NoLastDimensions last_agree)

-- ---- what follows a leaf

data_agrees : (number : ℕ) (leaf : Leaf) → Agrees (data_at number leaf) (IsData number leaf) (NoData number leaf)
data_agrees number (Plain leaf) = mapped values.plain (row (row_of number leaf)) (Assigns (row_of number leaf))
    (Stops (row_of number leaf)) (rows (row_of number leaf))
data_agrees number ArgumentList = mapped values.argument_list (counted_at Bits32 as_type) (Assigns arguments_row)
    (Stops arguments_row) (types_agree Bits32)
data_agrees number MethodList =
    mapped values.method_list (to_end (row listed_method_row)) (Fills (Assigns listed_method_row))
    (FailsBehind (Assigns listed_method_row) (Stops listed_method_row))
    (to_end_agrees (row listed_method_row) (Assigns listed_method_row)
    (Stops listed_method_row) methods_agree method_takes)
data_agrees number (Array strided) = mapped values.array (array_at strided) (IsArray strided) (NoArray strided)
    (array_agrees strided)

pub behind_agrees : (number : ℕ) → Agrees (behind_leaf number) (IsBehind number) (NoBehind number)
unfolding behind_leaf
behind_agrees number = known_agrees number (data_at number) (IsData number) (NoData number) (data_agrees number)
    (leaf_of number)

-- ---- entries

entry_of_agrees : (test : Bool) (number : ℕ)
    → Agrees (entry_of test number) (IsEntryOf test number) (NoEntryOf test number)
entry_of_agrees true number = mapped (λ index. continues index) (row continuation_row) (Assigns continuation_row)
    (Stops continuation_row) (rows continuation_row)
entry_of_agrees false number = mapped (λ value. field value) (behind_leaf number) (IsBehind number) (NoBehind number)
    (behind_agrees number)

pub field_agrees : Agrees field_at IsEntry NoEntry
unfolding field_at
field_agrees =
    chained (number_at 2) (Begins (Spells u16)) (Refuses u16)
    (λ number mid. entry_of (number == continuation_leaf) number mid >>= λ entry. padding_at entry.1
    >>= λ nothing. ok (entry.0, nothing.1)) _ _ (shapes u16)
    (λ number. chained (entry_of (number == continuation_leaf) number) (IsEntryOf (number == continuation_leaf) number)
    (NoEntryOf (number == continuation_leaf) number)
    (λ entry end. padding_at end >>= λ nothing. ok (entry, nothing.1)) _ _
    (entry_of_agrees (number == continuation_leaf) number)
    (λ entry. mapped (λ nothing. entry) padding_at IsPadded IsPaddedShort padding_agrees))

-- ---- what is assigned takes bytes

data_leaves : (number : ℕ) (leaf : Leaf) (bytes : List ℕ) (x : TypeValue) (rest : List ℕ)
    → IsData number leaf bytes x rest → length rest ≤ length bytes
data_leaves number (Plain leaf) bytes x rest is = row_leaves (row_of number leaf) bytes is.0 rest is.1
data_leaves number ArgumentList bytes x rest is = row_leaves arguments_row bytes is.0 rest is.1
data_leaves number MethodList bytes x rest is = omega (arith, ap length is.1.1)
data_leaves number (Array strided) bytes x rest is = omega (arith, ap length is.1.3.1.5)

data_of_leaves : (number : ℕ) (leaf : Option Leaf) (bytes : List ℕ) (x : TypeValue) (rest : List ℕ)
    → IsOfKnownLeaf (IsData number) leaf bytes x rest → length rest ≤ length bytes
data_of_leaves number None bytes x rest is = absurd is
data_of_leaves number (Some leaf) bytes x rest is = data_leaves number leaf bytes x rest is

entry_of_leaves : (test : Bool) (number : ℕ) (bytes : List ℕ) (x : Entry) (rest : List ℕ)
    → IsEntryOf test number bytes x rest → length rest ≤ length bytes
entry_of_leaves true number bytes x rest is = row_leaves continuation_row bytes is.0 rest is.1
entry_of_leaves false number bytes x rest is = data_of_leaves number (leaf_of number) bytes is.0 rest is.1

pads_leave : (pads : List (List ℕ)) (bytes rest : List ℕ) → Sequence BeginsPad bytes pads rest
    → length rest ≤ length bytes
pads_leave [] bytes rest seq = omega (arith, ap length seq)
pads_leave (pad ∷ pads) bytes rest seq = omega
    (arith, length-append pad seq.0, ap length seq.1.1, pads_leave pads seq.0 rest seq.2)

pub field_long : TakesTwo IsEntry
field_long bytes x rest is =
    let two : length is.2.front ≡ 2 = is.2.spelled.len in
    omega (
      arith,
      two,
      begins_length (SpellsNumber 2) bytes is.0 is.1 is.2,
      entry_of_leaves (is.0 == continuation_leaf) is.0 is.1 is.3.0 is.3.1 is.3.2,
      pads_leave is.3.3.1.0 is.3.1 rest is.3.3.1.1,
    )

pub field_takes : TakesBytes IsEntry
field_takes = two_takes IsEntry field_long

-- ---- whole records

record_of_agrees : (test : Bool) (number : ℕ)
    → Agrees (record_of test number) (IsRecordOf test number) (NoRecordOf test number)
record_of_agrees true number =
    mapped field_list_of (to_end field_at) (Fills IsEntry) (FailsBehind IsEntry NoEntry)
    (to_end_agrees field_at IsEntry NoEntry field_agrees field_takes)
record_of_agrees false number = behind_agrees number

pub record_agrees : Agrees record_at IsRecord NoRecord
unfolding record_at
record_agrees =
    chained (number_at 2) (Begins (Spells u16)) (Refuses u16)
    (λ number. record_of (number == field_list_leaf) number) _ _ (shapes u16)
    (λ number. record_of_agrees (number == field_list_leaf) number)

pub one_record : NoTwoValues IsRecord
one_record = one_value record_at IsRecord NoRecord record_agrees
