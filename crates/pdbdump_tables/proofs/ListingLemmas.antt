-- What stands on an output after each step of a walk.
use Rattle.std.proofs.Common.{◌≡◌, ℕ, suc, ◌+◌, ◌-◌, ◌≤◌, ◌<◌, List, ◌∷◌, length, Some, None, Ok, Err}
use Rattle.std.proofs.Common.{refl, sym, ap, subst, ◌∙◌, arith}
use Rattle.pdb_base.specs.declared.error.Error.{Error}
use Rattle.pdb_base.specs.declared.error.Error.TheVariants.{OutOfMemory}
use Rattle.pdb_output.specs.Output.{OutputState, IsFailed}
use Rattle.pdb_tpi.proofs.StepLemmas.{step_err, step_none, step_some}
use Rattle.pdb_tpi.specs.Steps.{WalkPosition, walk, walk_rest, steps_taken, IsStep}
use Rattle.pdb_tpi.specs.Place.{IsPlace}
use Rattle.pdb_tpi.specs.Walk.{fault_of}
use Rattle.pdb_tpi.specs.Table.{Table}
use Rattle.pdbdump_rows.proofs.lemmas.Rows.{so_far_all, so_far_cut, so_far_more, so_far_none}
use Rattle.pdbdump_rows.specs.declared.form.Form.{Form}
use Rattle.pdbdump_rows.specs.Line.{IsRow, WritesWhat, indexed}
use Rattle.pdbdump_rows.specs.Lines.{row_text}
use Rattle.pdbdump_rows.specs.Row.{ShownRow}
use Rattle.pdbdump_rows.specs.Rows.{AreRows, AreRowsSoFar, rows_from}
use Rattle.pdb_tpi.specs.declared.header.Header.{Header}
use Rattle.pdbdump_tables.specs.Counted.{AreCounted}
use Rattle.pdbdump_tables.specs.declared.completeness.RecordCounts.{RecordCounts}
use Rattle.pdbdump_tables.specs.Listed.{IsWalked, cut, item_rows, lacking, stopped, whole}

-- the rows of the items from an index on
abbrev rows_left : Table → ℕ → List ShownRow
rows_left table index = rows_from indexed index (length (walk table) - (index - table.header.minimum_index))

-- an iterator stands in a table, and the rows of the items before it are written
pub record IsSoFar (form : Form) (table : Table) (stand : WalkPosition) (out out' : OutputState) : Type 0 where
  pub same : stand.table ≡ table
  pub least : table.header.minimum_index ≤ stand.index
  pub rows : AreRowsSoFar form (item_rows table) (rows_left table stand.index) out out'

-- an iterator stands at the first item
pub so_far_first : (form : Form) (table : Table) (stand : WalkPosition) (out : OutputState) → stand.table ≡ table
    → stand.index ≡ table.header.minimum_index → IsSoFar form table stand out out
so_far_first form table stand out same first =
    let all : rows_left table stand.index ≡ item_rows table =
    ap (rows_left table) first
    ∙ ap (rows_from indexed table.header.minimum_index) (omega arith) in
    record {
      same = same;
      least = omega (arith, first);
      rows = subst (λ (left : List ShownRow). AreRowsSoFar form (item_rows table) left out out) (sym all)
          (so_far_none form (item_rows table) out);
    }

-- the row of the next item is the first that is left
next_row : {X : Type 0} (seen : X → ℕ × List ℕ) (table : Table) (old new : WalkPosition) (x : X) → old.table ≡ table
    → table.header.minimum_index ≤ old.index → IsStep seen old (Ok (Some x)) new
    → (rows_left table old.index ≡ indexed (seen x).0 ∷ rows_left table new.index) × (new.index ≡ old.index + 1)
next_row {X} seen table old new x same least step =
    let given = step_some seen old x new step in
    let next : new.index ≡ old.index + 1 = ap (λ (s : WalkPosition). s.index) given.moved in
    let within : old.index - table.header.minimum_index < length (walk table) =
    subst (λ (t : Table). old.index - t.header.minimum_index < length (walk t)) same given.within in
    let more : length (walk table) - (old.index - table.header.minimum_index)
    ≡ suc (length (walk table) - (old.index + 1 - table.header.minimum_index)) = omega (arith, within, least) in (
      ap (rows_from indexed old.index) more ∙ rw (next, given.index) refl,
      next,
    )

pub next_written : {X : Type 0} (seen : X → ℕ × List ℕ) (form : Form) (table : Table) (old new : WalkPosition) (x : X)
    (out mid out' : OutputState) → IsSoFar form table old out mid → IsStep seen old (Ok (Some x)) new
    → WritesWhat (IsRow (row_text form) (indexed (seen x).0)) mid out' (Ok tt) → IsSoFar form table new out out'
next_written seen form table old new x out mid out' so step writes =
    let next = next_row seen table old new x so.same so.least step in
    let least = so.least in
    record {
      same = step.stays ∙ so.same;
      least = let moved = next.1 in omega (arith, moved, least);
      rows = so_far_more form (item_rows table) _ _ (indexed (seen x).0) out mid out' next.0 so.rows writes;
    }

-- where no item is left, the rows of all are written
all_written : (form : Form) (table : Table) (stand : WalkPosition) (out out' : OutputState)
    → IsSoFar form table stand out out' → length (walk stand.table) ≤ steps_taken stand
    → WritesWhat (AreRows form (item_rows table)) out out' (Ok tt)
all_written form table stand out out' so past =
    let here = subst (λ (t : Table). length (walk t) ≤ stand.index - t.header.minimum_index) so.same past in
    let none : length (walk table) - (stand.index - table.header.minimum_index) ≡ 0 = omega (arith, here) in
    so_far_all form (item_rows table) _ out out' (ap (rows_from indexed stand.index) none) so.rows

-- where the output fails within the next line
pub ends_cut : {X : Type 0} (seen : X → ℕ × List ℕ) (form : Form) (table : Table) (old new : WalkPosition) (x : X)
    (fault : Error) (out mid out' : OutputState) → IsSoFar form table old out mid → IsStep seen old (Ok (Some x)) new
    → IsFailed out' fault → WritesWhat (IsRow (row_text form) (indexed (seen x).0)) mid out' (Err fault)
    → IsWalked form table out out' (Err fault)
ends_cut seen form table old new x fault out mid out' so step failing part =
    let next = next_row seen table old new x so.same so.least step in
    cut fault failing
    (so_far_cut form (item_rows table) _ _ (indexed (seen x).0) out mid out' fault next.0 so.rows part)

-- ---- how a walk ends

-- at the end of the table all rows are written
pub ends_whole : {X : Type 0} (seen : X → ℕ × List ℕ) (form : Form) (table : Table) (old new : WalkPosition)
    (out out' : OutputState) → IsSoFar form table old out out' → IsStep seen old (Ok None) new
    → IsWalked form table out out' (Ok tt)
ends_whole seen form table old new out out' so step =
    let ended = step_none seen old new step in
    whole (ap walk_rest (sym so.same) ∙ ended.1) (all_written form table old out out' so ended.0)

-- and at the fault at which it stops
pub ends_stopped : {X : Type 0} (seen : X → ℕ × List ℕ) (form : Form) (table : Table) (old new : WalkPosition)
    (fault : Error) (out out' : OutputState) → IsSoFar form table old out out' → IsStep seen old (Err fault) new
    → IsWalked form table out out' (Err fault)
ends_stopped seen form table old new fault out out' so step =
    let ended = step_err seen old new fault step in
    stopped fault (λ none. ended.some (ap walk_rest so.same ∙ none))
    (ap (λ (t : Table). fault_of (walk_rest t)) (sym so.same) ∙ ended.is)
    (all_written form table old out out' so ended.past)

-- where memory is refused, the rows so far are written
pub ends_lacking : (form : Form) (table : Table) (stand : WalkPosition) (fault : Error) (out out' : OutputState)
    → IsSoFar form table stand out out' → fault ≡ OutOfMemory → IsWalked form table out out' (Err fault)
ends_lacking form table stand fault out out' so want =
    let all : IsWalked form table out out' (Err OutOfMemory) = lacking _ so.rows in
    subst (λ (e : Error). IsWalked form table out out' (Err e)) (sym want) all

-- ---- how many items there were

-- an iterator that gives none has passed them all
pub counted_all : {X : Type 0} (seen : X → ℕ × List ℕ) (table : Table) (old new : WalkPosition)
    (index position : ℕ) (header : Header) (counts : RecordCounts) → old.table ≡ table → IsStep seen old (Ok None) new
    → index ≡ old.index → IsPlace old.table old.index position → header ≡ table.header
    → counts.counted ≡ header.maximum_index - header.minimum_index
    → counts.present ≡ index - header.minimum_index → AreCounted table (Some counts)
counted_all seen table old new index position header counts same step here place is counted present =
    let past = (step_none seen old new step).0 in
    let reached = place.reached in
    let all : old.index - old.table.header.minimum_index ≡ length (walk old.table) = omega (arith, past, reached) in
    record {
      counts = counts;
      is = refl;
      counted = counted ∙ ap (λ (h : Header). h.maximum_index - h.minimum_index) is;
      present = present ∙ ap (λ (i : ℕ). i - header.minimum_index) here
          ∙ ap (λ (h : Header). old.index - h.minimum_index) is
          ∙ subst (λ (t : Table). old.index - t.header.minimum_index ≡ length (walk t)) same all;
    }
