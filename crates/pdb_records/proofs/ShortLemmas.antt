-- Every list that the grammar assigns has at most half as many items as its record has bytes.
use Rattle.std.proofs.Common.{ℕ, ◌≤◌, ◌==◌, Bool, true, false, List, [], ◌∷◌, length, subst, arith, Option, Some, None}
use Rattle.pdb_base.specs.Spelling.{SpellsNumber}
use Rattle.pdb_records.specs.Row.{Assigns}
use Rattle.pdb_records.specs.ToEnd.{Sequence}
use Rattle.pdb_records.specs.Dimensions.{AreDimensions}
use Rattle.pdb_records.proofs.DimensionLaws.{num_long}
use Rattle.pdb_records.proofs.TakesLemmas.{TakesTwo, begins_length, row_leaves}
use Rattle.pdb_values.specs.TypeValue.{TypeValue, values_in}
use Rattle.pdb_values.specs.TypeValue as values
use Rattle.pdb_records.specs.declared.leaf.Leaf.{Leaf}
use Rattle.pdb_records.specs.declared.leaf.Leaf.TheVariants.{Plain, ArgumentList, MethodList, Array}
use Rattle.pdb_records.specs.Rows.{listed_method_row}
use Rattle.pdb_records.specs.Lists.{array_row}
use Rattle.pdb_records.specs.Arrays.{array_of}
use Rattle.pdb_records.specs.Leaves.{leaf_of}
use Rattle.pdb_records.specs.Fields.{Entry, field, continues, fields_among, field_list_of, continuation_leaf}
use Rattle.pdb_records.specs.Fields.{field_list_leaf}
use Rattle.pdb_records.specs.Grammar.{IsData, IsEntryOf, IsEntry, IsRecordOf, IsRecord}
use Rattle.pdb_records.specs.declared.parse.counted.CountWidth.TheVariants.{Bits32}
use Rattle.pdb_records.specs.Known.{IsOfKnownLeaf}
use Rattle.pdb_records.specs.Short.{HalfAsMany, IsShort, AreShort}
use Rattle.pdb_records.proofs.CountedLemmas.{types_few}
use Rattle.pdb_records.proofs.ListLemmas.{method_long}
use Rattle.pdb_records.proofs.GrammarLaws.{field_long}

-- ---- lists of items, each of which takes two bytes at least

sequence_short : {A : Type 0} (Is : List ℕ → A → List ℕ → Type 0) → TakesTwo Is → (xs : List A) (bytes rest : List ℕ)
    → Sequence Is bytes xs rest → HalfAsMany xs (length bytes)
sequence_short Is two [] bytes rest seq = omega arith
sequence_short Is two (x ∷ xs) bytes rest seq =
    omega (arith, two bytes x seq.0 seq.1, sequence_short Is two xs seq.0 rest seq.2)

dimensions_short : (ns bytes rest : List ℕ) → AreDimensions bytes ns rest → HalfAsMany ns (length bytes)
dimensions_short [] bytes rest are = absurd are
dimensions_short (n ∷ []) bytes rest are = omega (arith, num_long bytes n (0 ∷ rest) are.0)
dimensions_short (n ∷ m ∷ ns) bytes rest are =
    omega (arith, num_long bytes n are.0 are.1.0, dimensions_short (m ∷ ns) are.0 rest are.3)

-- ---- records

data_short : (size number : ℕ) (leaf : Leaf) (bytes : List ℕ) (value : TypeValue) (rest : List ℕ) → length bytes ≤ size
    → IsData number leaf bytes value rest → IsShort size value
data_short size number (Plain leaf) bytes value rest fits is = subst (λ (v : TypeValue). IsShort size v) is.2 tt
data_short size number ArgumentList bytes value rest fits is =
    let short : HalfAsMany is.0 size = omega (arith, fits, types_few Bits32 bytes is.0 rest is.1) in
    subst (λ (v : TypeValue). IsShort size v) is.2 short
data_short size number MethodList bytes value rest fits is =
    let short : HalfAsMany is.0 size = omega (
      arith,
      fits,
      sequence_short (Assigns listed_method_row) method_long is.0 bytes rest is.1.0,
    ) in
    subst (λ (v : TypeValue). IsShort size v) is.2 short
data_short size number (Array strided) bytes value rest fits is =
    let dimensions = is.1.3 in
    let short : HalfAsMany dimensions.0 size =
    omega (
      arith,
      fits,
      row_leaves (array_row strided) bytes is.1.0 is.1.1 is.1.2,
      dimensions_short dimensions.0 is.1.1 dimensions.1.0 dimensions.1.2,
    ) in
    let made : IsShort size (values.array (array_of is.1.0 dimensions.0)) = short in
    subst (λ (v : TypeValue). IsShort size v) is.2 (subst (λ (a : _). IsShort size (values.array a)) dimensions.2 made)

behind_short : (size number : ℕ) (leaf : Option Leaf) (bytes : List ℕ) (value : TypeValue) (rest : List ℕ)
    → length bytes ≤ size → IsOfKnownLeaf (IsData number) leaf bytes value rest → IsShort size value
behind_short size number None bytes value rest fits is = absurd is
behind_short size number (Some leaf) bytes value rest fits is = data_short size number leaf bytes value rest fits is

-- ---- lists of fields

EntryIsShort : ℕ → Entry → Type 0
EntryIsShort size (field value) = IsShort size value
EntryIsShort size (continues index) = Unit {0}

entry_of_short : (size : ℕ) (test : Bool) (number : ℕ) (bytes : List ℕ) (entry : Entry) (rest : List ℕ)
    → length bytes ≤ size → IsEntryOf test number bytes entry rest → EntryIsShort size entry
unfolding EntryIsShort
entry_of_short size true number bytes entry rest fits is = subst (λ (e : Entry). EntryIsShort size e) is.2 tt
entry_of_short size false number bytes entry rest fits is =
    subst (λ (e : Entry). EntryIsShort size e) is.2
    (behind_short size number (leaf_of number) bytes is.0 rest fits is.1)

entry_short : (size : ℕ) (bytes : List ℕ) (entry : Entry) (rest : List ℕ) → length bytes ≤ size
    → IsEntry bytes entry rest → EntryIsShort size entry
entry_short size bytes entry rest fits is =
    let less : length is.1 ≤ size = omega (arith, fits, begins_length (SpellsNumber 2) bytes is.0 is.1 is.2) in
    subst (λ (e : Entry). EntryIsShort size e) is.3.3.2
    (entry_of_short size (is.0 == continuation_leaf) is.0 is.1 is.3.0 is.3.1 less is.3.2)

fields_short : (size : ℕ) (entries : List Entry) (bytes rest : List ℕ) → length bytes ≤ size
    → Sequence IsEntry bytes entries rest → AreShort size (fields_among entries)
unfolding EntryIsShort
fields_short size [] bytes rest fits seq = tt
fields_short size (field value ∷ entries) bytes rest fits seq = (
  entry_short size bytes (field value) seq.0 fits seq.1,
  fields_short size entries seq.0 rest (omega (arith, fits, field_long bytes (field value) seq.0 seq.1)) seq.2,
)
fields_short size (continues index ∷ entries) bytes rest fits seq =
    fields_short size entries seq.0 rest (omega (arith, fits, field_long bytes (continues index) seq.0 seq.1)) seq.2

fewer_fields : (entries : List Entry) → length (values_in (fields_among entries)) ≤ length entries
fewer_fields [] = omega arith
fewer_fields (field value ∷ entries) = omega (arith, fewer_fields entries)
fewer_fields (continues index ∷ entries) = omega (arith, fewer_fields entries)

record_of_short : (size : ℕ) (test : Bool) (number : ℕ) (bytes : List ℕ) (value : TypeValue) (rest : List ℕ)
    → length bytes ≤ size → IsRecordOf test number bytes value rest → IsShort size value
record_of_short size true number bytes value rest fits is =
    let few : HalfAsMany (values_in (fields_among is.0)) size =
    omega (arith, fits, fewer_fields is.0, sequence_short IsEntry field_long is.0 bytes rest is.1.0) in
    let short : IsShort size (field_list_of is.0) = (few, fields_short size is.0 bytes rest fits is.1.0) in
    subst (λ (v : TypeValue). IsShort size v) is.2 short
record_of_short size false number bytes value rest fits is =
    behind_short size number (leaf_of number) bytes value rest fits is

pub record_short : (bytes : List ℕ) (value : TypeValue) (rest : List ℕ) → IsRecord bytes value rest
    → IsShort (length bytes) value
record_short bytes value rest is =
    record_of_short (length bytes) (is.0 == field_list_leaf) is.0 is.1 value rest
    (omega (arith, begins_length (SpellsNumber 2) bytes is.0 is.1 is.2)) is.3
