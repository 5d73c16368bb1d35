-- Steps from the first item on give the walk, and then its end.
use Rattle.std.proofs.Common.{◌≡◌, ◌⊎◌, inl, inr, ℕ, ◌+◌, ◌≤◌, List, [], ◌∷◌, ◌++◌, length, refl, sym, ap, subst, ◌∙◌}
use Rattle.std.proofs.Common.{arith, Option, Result, Ok, Err, Some, None}
use Rattle.std.proofs.lemmas.Option.{slice_get_past}
use Rattle.pdb_base.specs.declared.error.Error.{Error}
use Rattle.pdb_tpi.specs.Table.{Table}
use Rattle.pdb_tpi.specs.Steps.{WalkPosition, walk, steps_taken, IsStep}
use Rattle.pdb_tpi.specs.StepLaws.{AreSteps, first_stand, IsAnswerAt}
use Rattle.pdb_tpi.proofs.StepLemmas.{step_some, step_none, step_err}

-- a stand before the item of a place
abbrev pub stand_at : Table → ℕ → WalkPosition
stand_at table n = record { table = table; index = table.header.minimum_index + n }

-- A step from a place answers what is there, and goes on behind an item, and else stays.
record IsOneStep {X : Type 0} (seen : X → ℕ × List ℕ) (table : Table) (n : ℕ) (result : Result (Option X) Error)
    (next : WalkPosition) : Type 0 where
  pub at_place : IsAnswerAt seen table n result
  pub goes_on : (next ≡ stand_at table (n + 1)) ⊎ ((length (walk table) ≤ n) × (next ≡ stand_at table n))

one_step : {X : Type 0} (seen : X → ℕ × List ℕ) (table : Table) (n : ℕ) (result : Result (Option X) Error)
    (next : WalkPosition) → IsStep seen (stand_at table n) result next → IsOneStep seen table n result next
one_step seen table n (Ok (Some x)) next step =
    let old = stand_at table n in
    let given = step_some seen old x next step in
    let there : steps_taken old ≡ n = omega arith in
    let index_is : old.index + 1 ≡ table.header.minimum_index + (n + 1) = omega arith in
    record {
      at_place = inl (record {
        item = (seen x).1;
        in_walk = rw there at given.there;
        given = x;
        is = refl;
        same = ap (λ (i : ℕ). (i, (seen x).1)) (sym given.index);
      });
      goes_on = inl (given.moved ∙ ap (λ (i : ℕ). record old { index = i }) index_is);
    }
one_step seen table n (Ok None) next step =
    let old = stand_at table n in
    let ended = step_none seen old next step in
    let past : length (walk table) ≤ n = omega (arith, ended.0) in
    record {
      at_place = inr (past, inl (ended.1, refl));
      goes_on = inr (past, ended.2);
    }
one_step seen table n (Err e) next step =
    let old = stand_at table n in
    let refused = step_err seen old next e step in
    let past : length (walk table) ≤ n = omega (arith, refused.past) in
    record {
      at_place = inr (past, inr (refused.some, record { error = e; is = refl; same = sym refused.is }));
      goes_on = inr (past, step.kept);
    }

-- behind the last item every step answers the same
still_behind : {X : Type 0} (seen : X → ℕ × List ℕ) (table : Table) (n m : ℕ) (result : Result (Option X) Error)
    → length (walk table) ≤ n → length (walk table) ≤ m → IsAnswerAt seen table n result
    → IsAnswerAt seen table m result
still_behind seen table n m result past further (inl gives) =
    absurd (let none = slice_get_past (walk table) n past in let some = gives.in_walk in cc)
still_behind seen table n m result past further (inr behind) = inr (further, behind.1)

steps_from : {X : Type 0} (seen : X → ℕ × List ℕ) (table : Table) (n : ℕ)
    (before behind : List (Result (Option X) Error)) (result : Result (Option X) Error)
    → AreSteps seen (stand_at table n) (before ++ result ∷ behind)
    → IsAnswerAt seen table (n + length before) result
steps_from seen table n [] behind result steps =
    let here : n + 0 ≡ n = omega arith in
    rw here (one_step seen table n result steps.0 steps.1).at_place
steps_from seen table n (first ∷ before) behind result steps =
    let step = one_step seen table n first steps.0 steps.1 in
    elim step.goes_on [
      | inl next ↦
          let further = subst (λ (s : WalkPosition). AreSteps seen s (before ++ result ∷ behind)) next steps.2 in
          let there : n + length (first ∷ before) ≡ n + 1 + length before = omega arith in
          rw there (steps_from seen table (n + 1) before behind result further)
      | inr stays ↦
          let further = subst (λ (s : WalkPosition). AreSteps seen s (before ++ result ∷ behind)) stays.1 steps.2 in
          let past = stays.0 in
          still_behind seen table (n + length before) (n + length (first ∷ before)) result (omega arith) (omega arith)
          (steps_from seen table n before behind result further)
    ]

-- Of steps from the first item on, each answers what stands at its number in the walk.
pub steps_give : {X : Type 0} (seen : X → ℕ × List ℕ) (table : Table) (before behind : List (Result (Option X) Error))
    (result : Result (Option X) Error) → AreSteps seen (first_stand table) (before ++ result ∷ behind)
    → IsAnswerAt seen table (length before) result
steps_give seen table before behind result steps =
    let start : table.header.minimum_index ≡ table.header.minimum_index + 0 = omega arith in
    let first = subst (λ (i : ℕ). AreSteps seen (record { table = table; index = i })
    (before ++ result ∷ behind)) start steps in
    let there : 0 + length before ≡ length before = omega arith in
    rw there at (steps_from seen table 0 before behind result first)
