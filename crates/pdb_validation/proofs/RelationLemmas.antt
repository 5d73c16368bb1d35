-- What is told of relations.
use Rattle.std.proofs.Common.{◌≡◌, ◌↔◌, ℕ, ◌+◌, ◌<◌, Bool, not, List, [], ◌∷◌, ◌++◌, filter, get_or, length, map}
use Rattle.std.proofs.Common.{take, refl, sym, ap, ◌∙◌, inl, inr, arith}
use Rattle.std.proofs.lemmas.Bool.{cases_Bool}
use Rattle.std.proofs.lemmas.List.{append-nil, map-append, take_more}
use Rattle.std.proofs.lemmas.List.Elements.{filter-append}
use Rattle.pdb_msf.specs.Layout.{LayoutValue}
use Rattle.pdb_validation.specs.Mismatch.{asked_of, warns}
use Rattle.pdb_validation.specs.declared.mismatch.Extent.{Extent}
use Rattle.pdb_validation.specs.declared.mismatch.Extent.TheVariants as extents
use Rattle.pdb_validation.specs.declared.mismatch.Mismatch.{Mismatch}
use Rattle.pdb_validation.specs.Finding.{FaultPlace, error_count, errors_in, warning_count}
use Rattle.pdb_validation.specs.Problem.{is_tolerated}
use Rattle.pdb_validation.specs.Relations.{AreConsistent, IsConsistent, Relation, mismatch_fault, relation_faults}
use Rattle.pdb_validation.specs.Relations.{with_relations}
use Rattle.pdb_validation.specs.declared.finding.Part.{Part}

pub nothing_asked : (extent : Extent) → asked_of extent [] ≡ []
nothing_asked extents.First = refl
nothing_asked extents.All = refl

-- a relation without mismatches tells nothing
pub nothing_related : (extent : Extent) (faults : List FaultPlace) (fault : Mismatch → FaultPlace)
    → faults ++ map fault (asked_of extent []) ≡ faults
nothing_related extent faults fault = rw (nothing_asked extent) (append-nil faults)

-- one mismatch more
pub mismatches_more : (fault : Mismatch → FaultPlace) (mismatches : List Mismatch) (i : ℕ) (d : Mismatch)
    → i < length mismatches
    → map fault (take (i + 1) mismatches) ≡ map fault (take i mismatches) ++ fault (get_or mismatches i d) ∷ []
mismatches_more fault mismatches i d within =
    ap (λ (some : List Mismatch). map fault some) (take_more mismatches i d within)
    ∙ map-append fault (take i mismatches) (get_or mismatches i d ∷ [])

-- ---- errors

abbrev is_wrong : Mismatch → Bool
is_wrong mismatch = not (warns mismatch)

-- the errors among some mismatches, as faults
errors_map : (layout : LayoutValue) (part : Part) (mismatches : List Mismatch)
    → errors_in (map (mismatch_fault layout part) mismatches)
    ≡ map (mismatch_fault layout part) (filter is_wrong mismatches)
errors_map layout part [] = refl
errors_map layout part (mismatch ∷ mismatches) = elim (cases_Bool (warns mismatch)) [
  | inl is ↦ rw is (errors_map layout part mismatches)
  | inr is ↦ rw is (ap (λ (l : List FaultPlace). mismatch_fault layout part mismatch ∷ l)
      (errors_map layout part mismatches))
]

-- warnings alone have no error among them
no_wrong : (mismatches : List Mismatch) → filter is_wrong (filter warns mismatches) ≡ []
no_wrong [] = refl
no_wrong (mismatch ∷ mismatches) = elim (cases_Bool (warns mismatch)) [
  | inl is ↦ rw (is, is) (no_wrong mismatches)
  | inr is ↦ rw is (no_wrong mismatches)
]

cons_none : {A : Type 0} (x : A) (xs : List A) → x ∷ xs ≡ [] → ⊥
cons_none x xs is = cc

first_kept : (mismatches : List Mismatch) → filter is_wrong mismatches ≡ [] → filter is_wrong (take 1 mismatches) ≡ []
first_kept [] is = refl
first_kept (mismatch ∷ mismatches) is = elim (cases_Bool (warns mismatch)) [
  | inl warns ↦ rw warns refl
  | inr wrong ↦ absurd (cons_none _ _ (rw wrong at is))
]

-- an error is among what is asked for
first_wrong : (mismatches : List Mismatch) (others : List Mismatch)
    → filter is_wrong (take 1 (filter is_wrong mismatches ++ others)) ≡ [] → filter is_wrong mismatches ≡ []
first_wrong [] others is = refl
first_wrong (mismatch ∷ mismatches) others is = elim (cases_Bool (warns mismatch)) [
  | inl warns ↦ rw warns (first_wrong mismatches others (rw warns at is))
  | inr wrong ↦ absurd (cons_none _ _ (rw (wrong, wrong) at is))
]

asked_agrees : (extent : Extent) (mismatches : List Mismatch)
    → (filter is_wrong (asked_of extent mismatches) ≡ []) ↔ (filter is_wrong mismatches ≡ [])
asked_agrees extents.First mismatches = (
  λ none. first_wrong mismatches (filter warns mismatches) none,
  λ none. rw none (first_kept (filter warns mismatches) (no_wrong mismatches)),
)
asked_agrees extents.All mismatches = (λ none. none, λ none. none)

map_none : (fault : Mismatch → FaultPlace) (mismatches : List Mismatch) → map fault mismatches ≡ [] → mismatches ≡ []
map_none fault [] is = refl
map_none fault (mismatch ∷ mismatches) is = absurd cc

related_agrees : (extent : Extent) (layout : LayoutValue) (related : Relation)
    → (errors_in (relation_faults extent layout related) ≡ []) ↔ IsConsistent related
related_agrees extent layout related =
    let fault = mismatch_fault layout related.part in
    let wrong = errors_map layout related.part (asked_of extent related.mismatches) in
    let asked = asked_agrees extent related.mismatches in
    (λ none. asked.0 (map_none fault _ (sym wrong ∙ none)), λ is. wrong ∙ ap (map fault) (asked.1 is))

-- ---- relations, one behind another

errors_both : (xs ys : List FaultPlace) → errors_in (xs ++ ys) ≡ errors_in xs ++ errors_in ys
errors_both xs ys = filter-append (λ (fault : FaultPlace). not (is_tolerated fault.problem)) xs ys

both_none : (xs ys : List FaultPlace) → xs ++ ys ≡ [] → (xs ≡ []) × (ys ≡ [])
both_none [] ys is = (refl, is)
both_none (x ∷ xs) ys is = absurd cc

related_more : {A : Type 0} (extent : Extent) (layout : LayoutValue) (related : Relation) (faults : List FaultPlace)
    → (errors_in faults ≡ []) ↔ A
    → (errors_in (faults ++ relation_faults extent layout related) ≡ []) ↔ (A × IsConsistent related)
related_more extent layout related faults agree =
    let here = relation_faults extent layout related in
    let one = related_agrees extent layout related in (
      λ none. let both = both_none (errors_in faults) (errors_in here) (sym (errors_both faults here) ∙ none) in
          (agree.0 both.0, one.0 both.1),
      λ both. errors_both faults here ∙ rw (agree.1 both.0, one.1 both.1) refl,
    )

-- faults with relations behind them have no error exactly if the faults have none and the relations agree
pub agreeing : {A : Type 0} (extent : Extent) (layout : LayoutValue) (relations : List Relation)
    (faults : List FaultPlace) → (errors_in faults ≡ []) ↔ A
    → (errors_in (with_relations extent layout relations faults) ≡ []) ↔ (A × AreConsistent relations)
agreeing extent layout [] faults agree = (λ none. (agree.0 none, tt), λ both. agree.1 both.0)
agreeing extent layout (related ∷ more) faults agree =
    let all = agreeing extent layout more (faults ++ relation_faults extent layout related)
    (related_more extent layout related faults agree) in (
      λ none. let are = all.0 none in (are.0.0, (are.0.1, are.1)),
      λ are. all.1 ((are.0, are.1.0), are.1.1),
    )

-- ---- counts

partitioned : (faults : List FaultPlace) → length faults ≡ warning_count faults + length (errors_in faults)
partitioned [] = refl
partitioned (fault ∷ faults) = elim (cases_Bool (is_tolerated fault.problem)) [
  | inl is ↦ let more = partitioned faults in rw is (omega (arith, more))
  | inr is ↦ let more = partitioned faults in rw is (omega (arith, more))
]

length_none : (faults : List FaultPlace) → length faults ≡ 0 → faults ≡ []
length_none [] is = refl
length_none (fault ∷ faults) is = absurd (omega (arith, is))

-- there is no error exactly if none is counted
pub counted : (faults : List FaultPlace) → (error_count faults ≡ 0) ↔ (errors_in faults ≡ [])
counted faults =
    let all = partitioned faults in (
      λ none. length_none (errors_in faults) (omega (arith, none, all)),
      λ none. let zero : length (errors_in faults) ≡ 0 = ap (λ (l : List FaultPlace). length l) none in
          omega (arith, all, zero),
    )
