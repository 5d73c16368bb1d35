-- Which features the numbers after the table tell.
use Rattle.std.proofs.Common.{◌≡◌, ◌≢◌, ◌⊎◌, ◌↔◌, ◌<◌, ◌||◌, ◌==◌, if◌then◌else◌, ℕ, zero, suc, inl, inr}
use Rattle.std.proofs.Common.{Bool, true, false, IsTrue, List, [], ◌∷◌, refl, sym, ap, ◌∙◌, arith, Some}
use Rattle.std.specs.List.{slice_get}
use Rattle.std.proofs.lemmas.Bool.{cases_Bool, eqb-true, eq-eqb, ne_eqb, eqb-false, or_cases, or_right}
use Rattle.std.proofs.lemmas.Option.{none-some, same_Some, slice_get_past}
use Rattle.pdb_base.proofs.lemmas.Collected.{bind_err}
use Rattle.pdb_file.specs.Features.{features_in, features_of, minimal_number, no_features, no_type_merge_number}
use Rattle.pdb_file.specs.Features.{numbers_in, told_by, vc110_number, vc140_number, with_number}
use Rattle.pdb_file.specs.StreamNames.{map_of}
use Rattle.pdb_file.specs.declared.features.Features.{Features}
use Rattle.pdb_file.specs.declared.information.PDBInformation.{PDBInformation}
use Rattle.pdb_file.specs.Laws.{FindsFeatures, IsFeatureTold, TellFeatures}
use Rattle.pdb_file.proofs.FaultLaws.{map_ends}
use Rattle.pdb_file.proofs.NamedLaws.{map_only}

before_later : (first : ℕ) (numbers : List ℕ) (place : ℕ) → first ≢ vc110_number
    → ((k : ℕ) → k < place → slice_get numbers k ≢ Some vc110_number)
    → (k : ℕ) → k < suc place → slice_get (first ∷ numbers) k ≢ Some vc110_number
before_later first numbers place other before zero below is = other (same_Some first vc110_number is)
before_later first numbers place other before (suc k) below is = before k (omega (arith, below)) is

-- the last number of a list, and any other
told_last : (first : ℕ) (numbers : List ℕ) (told : Features) → (first == vc110_number) ≡ true
    → told_by (first ∷ numbers) told ≡ with_number first told
told_last first numbers told last =
    ap (λ (b : Bool). if b then with_number first told else told_by numbers (with_number first told)) last

told_more : (first : ℕ) (numbers : List ℕ) (told : Features) → (first == vc110_number) ≡ false
    → told_by (first ∷ numbers) told ≡ told_by numbers (with_number first told)
told_more first numbers told other =
    ap (λ (b : Bool). if b then with_number first told else told_by numbers (with_number first told)) other

-- a feature, and its number
module _ (feature : Features → Bool) (sought : ℕ)
    (with : (number : ℕ) (told : Features)
    → feature (with_number number told) ≡ (number == sought || feature told)) where
  -- a feature that the first number tells, or that was told before
  told_now : (first : ℕ) (numbers : List ℕ) (told : Features) → feature (with_number first told) ≡ true
      → (feature told ≡ true) ⊎ IsFeatureTold (first ∷ numbers) sought
  told_now first numbers told e = elim (or_cases (first == sought) (feature told) (sym (with first told) ∙ e)) [
    | inl same ↦ inr (rw (eqb-true first sought same)
        (record { place = 0; there = refl; before = λ k below. absurd (omega (arith, below)) }))
    | inr before ↦ inl before
  ]

  found : (numbers : List ℕ) (told : Features) → feature (told_by numbers told) ≡ true
      → (feature told ≡ true) ⊎ IsFeatureTold numbers sought
  found [] told e = inl e
  found (first ∷ numbers) told e = elim (cases_Bool (first == vc110_number)) [
    | inl last ↦ told_now first numbers told (ap feature (sym (told_last first numbers told last)) ∙ e)
    | inr other ↦ elim (found numbers (with_number first told) (ap feature (sym (told_more first numbers told other))
        ∙ e)) [
          | inl now ↦ told_now first numbers told now
          | inr later ↦ inr (record {
            place = suc later.place;
            there = later.there;
            before = before_later first numbers later.place (eqb-false first vc110_number other) later.before;
          })
        ]
  ]

  -- what is told stays so
  kept_now : (first : ℕ) (numbers : List ℕ) (told : Features) → feature (with_number first told) ≡ true
      → ((next : Features) → feature next ≡ true → feature (told_by numbers next) ≡ true)
      → feature (told_by (first ∷ numbers) told) ≡ true
  kept_now first numbers told now kept = elim (cases_Bool (first == vc110_number)) [
    | inl last ↦ ap feature (told_last first numbers told last) ∙ now
    | inr other ↦ ap feature (told_more first numbers told other) ∙ kept (with_number first told) now
  ]

  kept : (numbers : List ℕ) (told : Features) → feature told ≡ true → feature (told_by numbers told) ≡ true
  kept [] told e = e
  kept (first ∷ numbers) told e = kept_now first numbers told
      (with first told ∙ or_right (first == sought) (feature told) e) (kept numbers)

  only : (numbers : List ℕ) (told : Features) (place : ℕ) → slice_get numbers place ≡ Some sought
      → ((k : ℕ) → k < place → slice_get numbers k ≢ Some vc110_number) → feature (told_by numbers told) ≡ true
  only [] told place there before = let none = slice_get_past {X = ℕ} [] place (omega arith) in
      absurd (none-some sought (sym none ∙ there))
  only (first ∷ numbers) told zero there before = kept_now first numbers told
      (with first told ∙ rw (eq-eqb first sought (same_Some first sought there)) refl) (kept numbers)
  only (first ∷ numbers) told (suc place) there before =
      let other : (first == vc110_number) ≡ false =
      ne_eqb first vc110_number (λ is. before 0 (omega arith) (ap (λ (n : ℕ). Some n) is)) in
      ap feature (told_more first numbers told other)
      ∙ only numbers (with_number first told) place there (λ k below. before (suc k) (omega (arith, below)))

  is_told : (numbers : List ℕ) → feature no_features ≡ false
      → IsTrue (feature (told_by numbers no_features)) ↔ IsFeatureTold numbers sought
  is_told numbers none = (
    λ e. elim (found numbers no_features e) [ inl at_first ↦ absurd cc | inr told ↦ told ],
    λ told. only numbers no_features told.place told.there told.before,
  )

tell_features : (bytes : List ℕ) → TellFeatures bytes
unfolding features_in
tell_features bytes = record {
  vc110 = is_told (λ told. told.vc110) vc110_number (λ number told. refl) (numbers_in bytes) refl;
  vc140 = is_told (λ told. told.vc140) vc140_number (λ number told. refl) (numbers_in bytes) refl;
  no_type_merge = is_told (λ told. told.no_type_merge) no_type_merge_number (λ number told. refl) (numbers_in bytes)
      refl;
  minimal = is_told (λ told. told.minimal) minimal_number (λ number told. refl) (numbers_in bytes) refl;
}

pub finds_features : (information : PDBInformation) → FindsFeatures information
unfolding features_of
finds_features information = record {
  found = λ table holds. rw (map_only information table holds) refl;
  told = tell_features;
  refused = λ e h. map_ends information e (bind_err (map_of information) (λ names. features_in names.behind) e h);
}
