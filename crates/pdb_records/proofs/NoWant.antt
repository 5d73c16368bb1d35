-- Bytes are refused for what they are, and so never for want of memory.
use Rattle.std.proofs.Common.{◌≡◌, ◌≢◌, inl, inr, ℕ, zero, suc, List, [], ◌∷◌, Err, sym, subst}
use Rattle.pdb_base.specs.Refusal.{Refusal, out_of_memory, unexpected_numeric_prefix, unimplemented_type_kind}
use Rattle.pdb_base.specs.Reading.{number_at}
use Rattle.pdb_base.specs.Numeric.{numeric_leaves, unsigned_leaves}
use Rattle.pdb_base.specs.Laws.{BeginsBadly}
use Rattle.pdb_records.specs.Shape.{Shape, u8, u16, u32, num, variant, type_index, id_index, some_type, some_id}
use Rattle.pdb_records.specs.Shape.{pointer_word, text, when, times, Spells, pointer_leaf, read_shape}
use Rattle.pdb_records.specs.Fault.{IsFaultOfBytes, Judged, BeginsBadPointer, FirstOf, Fault}
use Rattle.pdb_records.specs.Row.{Row, gives, field, Stops, row}
use Rattle.pdb_records.specs.Padding.{padding_at, IsPaddedShort}
use Rattle.pdb_records.specs.Dimensions.{dimension_at, NoDimension, NoDimensionBehind, NoDimensions}
use Rattle.pdb_records.proofs.ShapeLaws.{shapes}
use Rattle.pdb_records.proofs.RowLaws.{rows}
use Rattle.pdb_records.proofs.PaddingLaws.{padding_agrees}
use Rattle.pdb_records.proofs.DimensionLaws.{dimension_agrees}
use Rattle.pdb_base.proofs.lemmas.Reading.{number_ends}

-- a refusal that is a fault of bytes
pub is_fault : (refusal fault : Refusal) → refusal ≡ fault → IsFaultOfBytes fault → IsFaultOfBytes refusal
is_fault refusal fault is = subst IsFaultOfBytes (sym is)

-- ---- faults

judged_fault : (IsBad : ℕ → Type 0) (why : ℕ → Refusal) (refusal : Refusal) → ((n : ℕ) → IsFaultOfBytes (why n))
    → Judged IsBad why refusal → IsFaultOfBytes refusal
judged_fault IsBad why refusal each (inl bad) = is_fault refusal (why bad.0) bad.2 (each bad.0)
judged_fault IsBad why refusal each (inr none) = is_fault refusal _ none.1 tt

first_fault : {A : Type 0} (Spells : A → List ℕ → Type 0) (Fault : List ℕ → Refusal → Type 0) (refusal : Refusal)
    → ((bytes : List ℕ) → Fault bytes refusal → IsFaultOfBytes refusal)
    → (count : ℕ) (bytes : List ℕ) → FirstOf Spells Fault count bytes refusal → IsFaultOfBytes refusal
first_fault {A} Spells Fault refusal one zero bytes none = absurd none
first_fault {A} Spells Fault refusal one (suc count) bytes (inl here) = one bytes here.1
first_fault {A} Spells Fault refusal one (suc count) bytes (inr behind) =
    first_fault Spells Fault refusal one count behind.1 behind.3

pub shape_fault : (shape : Shape) (refusal : Refusal) (bytes : List ℕ) → Fault shape bytes refusal
    → IsFaultOfBytes refusal
shape_fault u8 refusal bytes is = is_fault refusal _ is tt
shape_fault u16 refusal bytes is = is_fault refusal _ is tt
shape_fault u32 refusal bytes is = is_fault refusal _ is tt
shape_fault num refusal bytes is = judged_fault (BeginsBadly unsigned_leaves bytes)
    (λ prefix. unexpected_numeric_prefix prefix) refusal (λ prefix. tt) is
shape_fault variant refusal bytes is = judged_fault (BeginsBadly numeric_leaves bytes)
    (λ prefix. unexpected_numeric_prefix prefix) refusal (λ prefix. tt) is
shape_fault type_index refusal bytes is = is_fault refusal _ is tt
shape_fault id_index refusal bytes is = is_fault refusal _ is tt
shape_fault some_type refusal bytes is = is_fault refusal _ is tt
shape_fault some_id refusal bytes is = is_fault refusal _ is tt
shape_fault pointer_word refusal bytes is =
    judged_fault (BeginsBadPointer bytes) (λ word. unimplemented_type_kind pointer_leaf) refusal (λ word. tt) is
shape_fault (text leaf) refusal bytes is = is_fault refusal _ is tt
shape_fault (when test shape) refusal bytes is = shape_fault shape refusal bytes is
shape_fault (times count shape) refusal bytes is =
    first_fault (Spells shape) (Fault shape) refusal (shape_fault shape refusal) count bytes is

pub stops_fault : {A : Type 0} (r : Row A) (bytes : List ℕ) (refusal : Refusal) → Stops r bytes refusal
    → IsFaultOfBytes refusal
stops_fault (gives a) bytes refusal is = absurd is
stops_fault (field shape next) bytes refusal (inl here) = shape_fault shape refusal bytes here.1
stops_fault (field shape next) bytes refusal (inr behind) = stops_fault (next behind.0) behind.1 refusal behind.3

pub padding_fault : (bytes : List ℕ) (refusal : Refusal) → IsPaddedShort bytes refusal → IsFaultOfBytes refusal
padding_fault bytes refusal is = is_fault refusal _ is.4 tt

pub dimension_fault : (bytes : List ℕ) (refusal : Refusal) → NoDimension bytes refusal → IsFaultOfBytes refusal
dimension_fault bytes refusal (inl refused) = shape_fault num refusal bytes refused.1
dimension_fault bytes refusal (inr large) = is_fault refusal _ large.4 tt

dimension_behind_fault : (ns : List ℕ) (bytes : List ℕ) (refusal : Refusal) → NoDimensionBehind ns bytes refusal
    → IsFaultOfBytes refusal
dimension_behind_fault [] bytes refusal is = dimension_fault bytes refusal is
dimension_behind_fault (n ∷ ns) bytes refusal (mid, here, inl ended) = is_fault refusal _ ended.2 tt
dimension_behind_fault (n ∷ ns) bytes refusal (mid, here, inr behind) = dimension_behind_fault ns mid refusal behind.1

pub dimensions_fault : (bytes : List ℕ) (refusal : Refusal) → NoDimensions bytes refusal → IsFaultOfBytes refusal
dimensions_fault bytes refusal is = dimension_behind_fault is.0 bytes refusal is.1

-- ---- what is read

pub number_no_want : (width : ℕ) (bytes : List ℕ) → number_at width bytes ≢ Err out_of_memory
number_no_want width bytes is = is_fault out_of_memory _ (number_ends width bytes out_of_memory is) tt

pub shape_no_want : (shape : Shape) (bytes : List ℕ) → read_shape shape bytes ≢ Err out_of_memory
shape_no_want shape bytes is = shape_fault shape out_of_memory bytes ((shapes shape).failed bytes out_of_memory is).1

pub row_no_want : {A : Type 0} (r : Row A) (bytes : List ℕ) → row r bytes ≢ Err out_of_memory
row_no_want r bytes is = stops_fault r bytes out_of_memory ((rows r).failed bytes out_of_memory is)

pub padding_no_want : (bytes : List ℕ) → padding_at bytes ≢ Err out_of_memory
padding_no_want bytes is = padding_fault bytes out_of_memory (padding_agrees.failed bytes out_of_memory is)

pub dimension_no_want : (bytes : List ℕ) → dimension_at bytes ≢ Err out_of_memory
dimension_no_want bytes is = dimension_fault bytes out_of_memory (dimension_agrees.failed bytes out_of_memory is)
