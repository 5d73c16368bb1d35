-- The next records of a walk, as they are written one after another.
use Rattle.std.specs.{Option.option_map, Option.option_map_or, List.slice_get}
use Rattle.std.proofs.Common.{◌≡◌, ℕ, ◌+◌, ◌<◌, List, [], ◌∷◌, ◌++◌, length, set, take, drop, refl, sym, ap, subst, ◌∙◌}
use Rattle.std.proofs.Common.{arith, Bool, Option, Some, None, Ok, Err}
use Rattle.std.proofs.lemmas.List.{drop-drop, drop-set-lt, take_more_set}
use Rattle.pdb_base.specs.Answer.{Answer, ◌>>=◌}
use Rattle.pdb_base.proofs.lemmas.Collected.{ok, ok_is, ok_is_no_err}
use Rattle.pdb_tpi.specs.Steps.{WalkPosition, step_of, steps_taken, step_at_end, walk, walk_rest}
use Rattle.pdb_tpi.specs.OpenTable.{record_bytes, record_place, step_located}
use Rattle.pdb_tpi.specs.{declared.open_table.RecordPlace.RecordPlace, Table.Table}
use Rattle.pdb_handles.specs.{declared.content.Records.Records, declared.fault.Fault.Fault, declared.row.Row.Row}
use Rattle.pdb_handles.specs.{declared.walked.TypeRow.TypeRow, Copied.IsAnswerTold, Tables.index_told}
use Rattle.pdb_handles.specs.Walked.{AreNext, IsToldAt, IsTypeRow, record_says}

-- what is written of a row, by what was read of a record
pub told_row : {A : Type 0} (shown : A → Row) (meant : Answer A) (old new : Row) (fault : Fault)
    → IsAnswerTold shown meant old fault new
    → IsAnswerTold (λ row. row) (meant >>= λ value. Ok (shown value)) old fault new
told_row shown (Ok value) old new fault told = told
told_row shown (Err refusal) old new fault told = told

-- ---- steps

-- the place that a step returns, and where the walk then stands
abbrev pub Placed : Type 0
Placed = Option RecordPlace × WalkPosition

-- A step stays in its table, and one that returns no record does not move.
abbrev pub Stays : WalkPosition → Placed → Type 0
Stays stand step = (step.1.table ≡ stand.table) × (step.0 ≡ None → step.1 ≡ stand)

-- by the item that is left, and the bytes behind the last one
stays_by : (stand : WalkPosition) (item : Option (List ℕ)) (rest : List ℕ) (step : Placed)
    → (option_map_or (λ (i : List ℕ). ok (Some (stand.index, i), record stand { index = stand.index + 1 })) item
    (step_at_end stand rest) >>= λ taken. Ok
    (option_map (λ (i : ℕ × List ℕ). record_place stand.table (steps_taken stand) i.1) taken.0, taken.1)) ≡ Ok step
    → Stays stand step
stays_by stand (Some item) rest step is = subst (Stays stand) (ok_is {A = Placed} _ step is) (refl, λ none. absurd cc)
stays_by stand None [] step is = subst (Stays stand) (ok_is {A = Placed} (None, stand) step is) (refl, λ none. refl)
stays_by stand None (byte ∷ rest) step is = absurd (ok_is_no_err step _ (sym is))

pub stays : (stand : WalkPosition) (step : Placed) → step_located stand ≡ Ok step → Stays stand step
unfolding step_of
stays stand step is = stays_by stand (slice_get (walk stand.table) (steps_taken stand)) (walk_rest stand.table) step is

-- what is written of a record, where the walk is then past it
pub told_behind : (ids : Bool) (stand next : WalkPosition) (index : ℕ) (place : RecordPlace) (told : TypeRow) → index
    ≡ index_told stand.index → step_located stand ≡ Ok (Some place, next)
    → IsTypeRow index place (record_says ids index (record_bytes next.table place)) told → IsToldAt ids stand place told
told_behind ids stand next index place told is step row =
    let same = (stays stand (Some place, next) step).0 in
    subst (λ (i : ℕ). IsTypeRow i place (record_says ids i (record_bytes stand.table place)) told) is
    (subst (λ (t : Table). IsTypeRow index place (record_says ids index (record_bytes t place)) told) same row)

-- ---- records, one after another

-- one record more
next_more : (ids : Bool) (rows : List TypeRow) (first stand next : WalkPosition) (place : RecordPlace) (told : TypeRow)
    → AreNext ids first rows stand → step_located stand ≡ Ok (Some place, next) → IsToldAt ids stand place told
    → AreNext ids first (rows ++ told ∷ []) next
next_more ids [] first stand next place told are step is =
    subst (λ (s : WalkPosition). (p : RecordPlace) × (n : WalkPosition) × (step_located s ≡ Ok (Some p, n))
    × IsToldAt ids s p told × (next ≡ n)) are (place, next, step, is, refl)
next_more ids (row ∷ rows) first stand next place told are step is =
    (are.0, are.1, are.2, are.3, next_more ids rows are.1 stand next place told are.4 step is)

-- so many records are written, and the items behind them are as they were
pub record IsWrittenTo (old now : List TypeRow) (first : Records) (count : ℕ) (late : Records) : Type 0 where
  pub are : AreNext first.are_ids first.types (take count now) late.types
  pub ids : late.are_ids ≡ first.are_ids
  pub behind : drop count now ≡ drop count old

pub written_more : (old now next : List TypeRow) (first late : Records) (after : WalkPosition) (count : ℕ)
    (place : RecordPlace) (told : TypeRow) → count < length now
    → IsWrittenTo old now first count late → step_located late.types ≡ Ok (Some place, after)
    → IsToldAt first.are_ids late.types place told
    → next ≡ set now count told → IsWrittenTo old next first (count + 1) (record late { types = after })
written_more old now next first late after count place told more so_far step is put =
    let are : AreNext first.are_ids first.types (take (count + 1) (set now count told)) after =
    subst (λ (rows : List TypeRow). AreNext first.are_ids first.types rows after)
    (sym (take_more_set now count told more))
    (next_more first.are_ids (take count now) first.types late.types after place told so_far.are step is) in
    let behind : drop (count + 1) (set now count told) ≡ drop (count + 1) old =
    drop-set-lt (count + 1) now count told (omega arith) ∙ sym (drop-drop 1 count now)
    ∙ ap (λ (rows : List TypeRow). drop 1 rows) so_far.behind ∙ drop-drop 1 count old in
    subst (λ (rows : List TypeRow). IsWrittenTo old rows first (count + 1) (record late { types = after })) (sym put)
    (record { are = are; ids = so_far.ids; behind = behind })
