-- What a step gives.
use Rattle.std.proofs.Common.{◌≡◌, ◌≢◌, inl, inr, ℕ, ◌+◌, ◌-◌, ◌^◌, ◌≤◌, ◌<◌, List, [], ◌∷◌, length, drop, refl, sym}
use Rattle.std.proofs.Common.{ap, ◌∙◌, arith, Option, eqb, true, false, Ok, Err, Some, None}
use Rattle.std.specs.List.{slice_get}
use Rattle.std.proofs.lemmas.Bool.{cases_lt, eqb-true, false≢true}
use Rattle.std.proofs.lemmas.Option.{none-some, same_Some, slice_get_cases, slice_get_past, slice_get_within}
use Rattle.pdb_base.specs.declared.error.Error.{Error}
use Rattle.pdb_base.specs.Refusal.{Refusal, refusal_of, unexpected_eof}
use Rattle.pdb_base.proofs.lemmas.Collected.{answer_cases, err, ok, ok_is}
use Rattle.pdb_tpi.specs.Table.{Table}
use Rattle.pdb_tpi.specs.Walk.{first_item, fault_of}
use Rattle.pdb_tpi.specs.Steps.{WalkPosition, walk, walk_rest, nth_item, steps_taken, items_left, step_at_end, step_of}
use Rattle.pdb_tpi.specs.Steps.{IsStep}
use Rattle.pdb_tpi.specs.Place.{IsPlace}
use Rattle.pdb_tpi.proofs.FrontLemmas.{empty_front}
use Rattle.pdb_tpi.proofs.WalkLemmas.{IsBehind, place_end, place_full, place_next, nth_some, nth_none}

-- ---- where an item is, and where none is

-- an item of the walk is at its place
pub nth_ok : (table : Table) (n : ℕ) (item : List ℕ) → nth_item table n ≡ Ok item → slice_get (walk table) n ≡ Some item
nth_ok table n item e = elim ((slice_get_cases (walk table) n).1) [
  | inl here ↦ let found = nth_some table n here.0 here.2 in cc
  | inr past ↦ absurd (let none = nth_none table n past.1 in cc)
]

-- behind the walk is a fault
pub nth_err : (table : Table) (n : ℕ) (fault : Refusal) → nth_item table n ≡ Err fault → (length (walk table) ≤ n)
    × (fault_of (walk_rest table) ≡ fault)
nth_err table n fault e = elim ((slice_get_cases (walk table) n).1) [
  | inl here ↦ absurd (let found = nth_some table n here.0 here.2 in cc)
  | inr past ↦ (past.0, (let none = nth_none table n past.1 in cc))
]

-- and the same one further on
pub nth_further : (table : Table) (n m : ℕ) (fault : Refusal) → nth_item table n ≡ Err fault → n ≤ m
    → nth_item table m ≡ Err fault
nth_further table n m fault e le =
    let is = nth_err table n fault e in
    nth_none table m (slice_get_past (walk table) m (omega (arith, is.0, le))) ∙ ap (λ (f : Refusal). err f) is.1

-- an iterator behind the last item
pub place_behind : (table : Table) (index position : ℕ) → IsPlace table index position
    → length (walk table) ≤ index - table.header.minimum_index → IsBehind table index position
place_behind table index position place past = elim (cases_lt index (2 ^ 32)) [
  | inl last ↦ elim (answer_cases (first_item (drop position table.bytes))) [
    | inl (item, e) ↦ absurd (omega (arith, past, (place_next table index position item place e last).within))
    | inr (fault, e) ↦ place_end table index position fault place e
  ]
  | inr full ↦ place_full table index position place full
]

-- ---- steps

pub step_stops : (stand : WalkPosition) → slice_get (walk stand.table) (steps_taken stand) ≡ None
    → step_of stand ≡ step_at_end stand (walk_rest stand.table)
unfolding step_of
step_stops stand e = rw e refl

stopped_fault : (stand : WalkPosition) (rest : List ℕ) → rest ≢ [] → step_at_end stand rest ≡ Err (fault_of rest)
stopped_fault stand [] some = absurd (some refl)
stopped_fault stand (byte ∷ rest) some = refl

pub step_ends : (table : Table) (index position : ℕ) → IsPlace table index position → drop position table.bytes ≡ []
    → step_of (record { table = table; index = index }) ≡ Ok (None, record { table = table; index = index })
step_ends table index position place none =
    let stand : WalkPosition = record { table = table; index = index } in
    let end = place_end table index position unexpected_eof place (ap first_item none ∙ empty_front) in
    step_stops stand end.none ∙ ap (step_at_end stand) (end.rest ∙ none)

pub step_faults : (table : Table) (index position : ℕ) (fault : Refusal) → IsPlace table index position
    → drop position table.bytes ≢ []
    → nth_item table (index - table.header.minimum_index) ≡ Err fault
    → step_of (record { table = table; index = index }) ≡ Err fault
step_faults table index position fault place some e =
    let stand : WalkPosition = record { table = table; index = index } in
    let is = nth_err table (index - table.header.minimum_index) fault e in
    let end = place_behind table index position place is.0 in
    step_stops stand end.none ∙ ap (step_at_end stand) end.rest ∙ stopped_fault stand (drop position table.bytes) some
    ∙ ap (λ (f : Refusal). err f) (ap fault_of (sym end.rest) ∙ is.1)

pub step_gives : (stand : WalkPosition) (item : List ℕ) → nth_item stand.table (steps_taken stand) ≡ Ok item
    → step_of stand ≡ Ok (Some (stand.index, item), record stand { index = stand.index + 1 })
unfolding step_of
step_gives stand item e = let is = nth_ok stand.table (steps_taken stand) item e in rw is refl

-- behind an item that is there one fewer is left
pub leaves_fewer : (old new : WalkPosition) (item : List ℕ) → old.table.header.minimum_index ≤ old.index
    → nth_item old.table (steps_taken old) ≡ Ok item → new ≡ record old { index = old.index + 1 }
    → items_left new < items_left old
leaves_fewer old new item least e moved =
    let there = nth_ok old.table (steps_taken old) item e in
    rw moved (omega (arith, least, slice_get_within (walk old.table) (steps_taken old) item there))

-- two answers of a step that are the same have the same item, and the iterator stands at the same place
same_step : (given told : Option (ℕ × List ℕ)) (at to : WalkPosition)
    → ok {A = Option (ℕ × List ℕ) × WalkPosition} (given, at) ≡ Ok (told, to) → (given ≡ told) × (at ≡ to)
same_step given told at to e =
    let Step : Type 0 = Option (ℕ × List ℕ) × WalkPosition in
    let same = ok_is {A = Step} (given, at) (told, to) e in
    (ap (λ (p : Step). p.0) same, ap (λ (p : Step). p.1) same)

-- what a step behind the last item tells
no_item : (stand : WalkPosition) (rest : List ℕ) (item : ℕ × List ℕ) (new : WalkPosition)
    → step_at_end stand rest ≡ Ok (Some item, new) → ⊥
no_item stand [] item new e = none-some item (same_step None (Some item) stand new e).0
no_item stand (byte ∷ rest) item new e = cc

at_end : (stand : WalkPosition) (rest : List ℕ) (new : WalkPosition) → step_at_end stand rest ≡ Ok (None, new) → rest
    ≡ []
at_end stand [] new e = refl
at_end stand (byte ∷ rest) new e = absurd cc

-- no byte is left
pub none_left : (bytes : List ℕ) → eqb (length bytes) 0 ≡ true → bytes ≡ []
none_left [] e = refl
none_left (byte ∷ bytes) e = absurd (omega (arith, eqb-true (length (byte ∷ bytes)) 0 e))

pub some_left : (bytes : List ℕ) → eqb (length bytes) 0 ≡ false → bytes ≢ []
some_left [] e none = absurd (false≢true (sym e))
some_left (byte ∷ bytes) e none = cc

-- ---- what callers learn of a step

-- An item that a step returned is that of the walk before which the iterator stood, and the iterator goes on behind
-- it.
pub record IsGiven {X : Type 0} (seen : X → ℕ × List ℕ) (old : WalkPosition) (x : X) (new : WalkPosition) : Type 0 where
  pub within : steps_taken old < length (walk old.table)
  pub there : slice_get (walk old.table) (steps_taken old) ≡ Some (seen x).1
  pub index : old.index ≡ (seen x).0
  pub moved : new ≡ record old { index = old.index + 1 }

pub step_some : {X : Type 0} (seen : X → ℕ × List ℕ) (old : WalkPosition) (x : X) (new : WalkPosition)
    → IsStep seen old (Ok (Some x)) new → IsGiven seen old x new
step_some seen old x new step = elim ((slice_get_cases (walk old.table) (steps_taken old)).1) [
  | inl here ↦
      let item : ℕ × List ℕ = (old.index, here.0) in
      let moved : WalkPosition = record old { index = old.index + 1 } in
      let gives = step_gives old here.0 (nth_some old.table (steps_taken old) here.0 here.2) in
      let is = same_step (Some item) (Some (seen x)) moved new (sym gives ∙ step.gives) in
      let same = same_Some item (seen x) is.0 in
      record {
        within = here.1;
        there = here.2 ∙ ap (λ (p : ℕ × List ℕ). Some p.1) same;
        index = ap (λ (p : ℕ × List ℕ). p.0) same;
        moved = sym is.1;
      }
  | inr past ↦ absurd (no_item old (walk_rest old.table) (seen x) new (sym (step_stops old past.1) ∙ step.gives))
]

-- at the end every item of the walk was given, no byte is left, and the iterator stays
pub step_none : {X : Type 0} (seen : X → ℕ × List ℕ) (old new : WalkPosition) → IsStep seen old (Ok None) new
    → (length (walk old.table) ≤ steps_taken old) × (walk_rest old.table ≡ []) × (new ≡ old)
step_none seen old new step = elim ((slice_get_cases (walk old.table) (steps_taken old)).1) [
  | inl here ↦
      let gives = step_gives old here.0 (nth_some old.table (steps_taken old) here.0 here.2) in
      absurd (none-some _ (sym (same_step (Some (old.index, here.0)) None _ new (sym gives ∙ step.gives)).0))
  | inr past ↦
      let is : step_at_end old (walk_rest old.table) ≡ Ok (None, new) = sym (step_stops old past.1) ∙ step.gives in
      let rest = at_end old (walk_rest old.table) new is in
      (past.0, rest, sym (same_step None None old new (sym (ap (step_at_end old) rest) ∙ is)).1)
]

-- A fault comes behind every item of the walk, where bytes are left that begin with no item.
pub record IsFaulted (old : WalkPosition) (fault : Refusal) : Type 0 where
  pub past : length (walk old.table) ≤ steps_taken old
  pub some : walk_rest old.table ≢ []
  pub is : fault_of (walk_rest old.table) ≡ fault

faulted_by : (stand : WalkPosition) (rest : List ℕ) (fault : Refusal) → step_at_end stand rest ≡ Err fault
    → (rest ≢ []) × (fault_of rest ≡ fault)
faulted_by stand [] fault e = absurd cc
faulted_by stand (byte ∷ rest) fault e = (λ none. cc, cc)

pub step_err : {X : Type 0} (seen : X → ℕ × List ℕ) (old new : WalkPosition) (e : Error)
    → IsStep seen old (Err e) new → IsFaulted old (refusal_of e)
step_err seen old new e step = elim ((slice_get_cases (walk old.table) (steps_taken old)).1) [
  | inl here ↦
      let gives = step_gives old here.0 (nth_some old.table (steps_taken old) here.0 here.2) in
      let told : step_of old ≡ Err (refusal_of e) = step.gives in
      absurd cc
  | inr past ↦
      let stops = faulted_by old (walk_rest old.table) (refusal_of e) (sym (step_stops old past.1) ∙ step.gives) in
      record { past = past.0; some = stops.0; is = stops.1 }
]
