-- Records are refused for what their bytes are.
use Rattle.std.proofs.Common.{inl, inr, ℕ, ◌==◌, Bool, true, false, List, Option, Some, None, sym}
use Rattle.pdb_base.specs.Refusal.{Refusal}
use Rattle.pdb_records.specs.Shape.{u16}
use Rattle.pdb_records.specs.Fault.{IsFaultOfBytes}
use Rattle.pdb_records.proofs.NoWant.{is_fault, shape_fault, stops_fault, padding_fault, dimensions_fault}
use Rattle.pdb_records.specs.declared.leaf.Leaf.{Leaf}
use Rattle.pdb_records.specs.declared.leaf.Leaf.TheVariants.{Plain, ArgumentList, MethodList, Array}
use Rattle.pdb_records.specs.Rows.{listed_method_row, continuation_row}
use Rattle.pdb_records.specs.Lists.{arguments_row, array_row}
use Rattle.pdb_records.specs.Known.{NoKnown}
use Rattle.pdb_records.specs.Leaves.{leaf_of, row_of}
use Rattle.pdb_records.specs.Fields.{continuation_leaf, field_list_leaf}
use Rattle.pdb_records.specs.Grammar.{NoLastDimensions, NoArray, NoData, NoEntryOf, NoEntry, NoRecordOf, NoRecord}

last_fault : (bytes : List ℕ) (refusal : Refusal) → NoLastDimensions bytes refusal → IsFaultOfBytes refusal
last_fault bytes refusal (inl first) = dimensions_fault bytes refusal first
last_fault bytes refusal (inr (ns, mid, are, inl cut)) = padding_fault mid refusal cut
last_fault bytes refusal (inr (ns, mid, are, inr left)) = is_fault refusal _ left.3 tt

array_fault : (strided : Bool) (bytes : List ℕ) (refusal : Refusal) → NoArray strided bytes refusal
    → IsFaultOfBytes refusal
array_fault strided bytes refusal (inl head) = stops_fault (array_row strided) bytes refusal head
array_fault strided bytes refusal (inr behind) = last_fault behind.1 refusal behind.3

data_fault : (number : ℕ) (leaf : Leaf) (bytes : List ℕ) (refusal : Refusal) → NoData number leaf bytes refusal
    → IsFaultOfBytes refusal
data_fault number (Plain leaf) bytes refusal is = stops_fault (row_of number leaf) bytes refusal is
data_fault number ArgumentList bytes refusal is = stops_fault arguments_row bytes refusal is
data_fault number MethodList bytes refusal is = stops_fault listed_method_row is.1 refusal is.4
data_fault number (Array strided) bytes refusal is = array_fault strided bytes refusal is

behind_fault : (number : ℕ) (leaf : Option Leaf) (bytes : List ℕ) (refusal : Refusal)
    → NoKnown number (NoData number) leaf bytes refusal → IsFaultOfBytes refusal
behind_fault number None bytes refusal is = is_fault refusal _ (sym is) tt
behind_fault number (Some leaf) bytes refusal is = data_fault number leaf bytes refusal is

entry_of_fault : (test : Bool) (number : ℕ) (bytes : List ℕ) (refusal : Refusal) → NoEntryOf test number bytes refusal
    → IsFaultOfBytes refusal
entry_of_fault true number bytes refusal is = stops_fault continuation_row bytes refusal is
entry_of_fault false number bytes refusal is = behind_fault number (leaf_of number) bytes refusal is

entry_fault : (bytes : List ℕ) (refusal : Refusal) → NoEntry bytes refusal → IsFaultOfBytes refusal
entry_fault bytes refusal (inl leaf) = shape_fault u16 refusal bytes leaf.1
entry_fault bytes refusal (inr (number, mid, begins, inl behind)) =
    entry_of_fault (number == continuation_leaf) number mid refusal behind
entry_fault bytes refusal (inr (number, mid, begins, inr pads)) = padding_fault pads.1 refusal pads.3

record_of_fault : (test : Bool) (number : ℕ) (bytes : List ℕ) (refusal : Refusal) → NoRecordOf test number bytes refusal
    → IsFaultOfBytes refusal
record_of_fault true number bytes refusal is = entry_fault is.1 refusal is.4
record_of_fault false number bytes refusal is = behind_fault number (leaf_of number) bytes refusal is

-- a type record is refused for what its bytes are
pub record_fault : (bytes : List ℕ) (refusal : Refusal) → NoRecord bytes refusal → IsFaultOfBytes refusal
record_fault bytes refusal (inl leaf) = shape_fault u16 refusal bytes leaf.1
record_fault bytes refusal (inr (number, mid, begins, is)) =
    record_of_fault (number == field_list_leaf) number mid refusal is
