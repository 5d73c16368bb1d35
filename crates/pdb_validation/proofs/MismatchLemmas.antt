-- Mismatches that are added one after another.
use Rattle.std.proofs.Common.{◌≡◌, List, [], ◌∷◌, ◌++◌, take, refl, sym, ap, ◌∙◌, append_assoc, Bool, true, false, not}
use Rattle.std.proofs.Common.{Ok}
use Rattle.std.specs.List.{filter}
use Rattle.std.proofs.lemmas.List.{append-nil}
use Rattle.std.proofs.lemmas.List.Sums.{fold-append}
use Rattle.pdb_base.specs.Answer.{Answer}
use Rattle.pdb_base.proofs.lemmas.Collected.{ok_is}
use Rattle.pdb_validation.specs.Mismatch.{asked_of, warns, with_further, with_one}
use Rattle.pdb_validation.specs.declared.mismatch.Extent.{Extent}
use Rattle.pdb_validation.specs.declared.mismatch.Extent.TheVariants.{First, All}
use Rattle.pdb_validation.specs.declared.mismatch.Mismatch.{Mismatch}

abbrev errs : Mismatch → Bool
errs mismatch = not (warns mismatch)

-- some mismatches, and then others
pub further_then : (extent : Extent) (kept xs ys : List Mismatch)
    → with_further extent (with_further extent kept xs) ys ≡ with_further extent kept (xs ++ ys)
further_then extent kept xs ys = sym (fold-append (with_one extent) kept xs ys)

all_kept : (kept xs : List Mismatch) → with_further All kept xs ≡ kept ++ xs
all_kept kept [] = sym (append-nil kept)
all_kept kept (x ∷ xs) = all_kept (kept ++ x ∷ []) xs ∙ append_assoc kept (x ∷ []) xs

-- an error stays
first_error : (kept : Mismatch) (xs : List Mismatch) → warns kept ≡ false
    → with_further First (kept ∷ []) xs ≡ kept ∷ []
first_error kept [] error = refl
first_error kept (x ∷ xs) error = rw error (first_error kept xs error)

take_front : (errors a b : List Mismatch) (kept : Mismatch) → take 1 (errors ++ kept ∷ a) ≡ take 1 (errors ++ kept ∷ b)
take_front [] a b kept = refl
take_front (x ∷ xs) a b kept = refl

-- a warning stays unless an error follows it
abbrev Keeps : Mismatch → List Mismatch → Type 0
Keeps kept xs = with_further First (kept ∷ []) xs ≡ take 1 (filter errs xs ++ kept ∷ filter warns xs)

warning_then : (kept x : Mismatch) (xs : List Mismatch) (warning : Bool) → warns kept ≡ true → Keeps kept xs
    → warns x ≡ warning → Keeps kept (x ∷ xs)
warning_then kept x xs true is others same = rw (is, same)
    (others ∙ take_front (filter errs xs) (filter warns xs) (x ∷ filter warns xs) kept)
warning_then kept x xs false is others same = rw (is, same) (first_error x xs same)

first_warning : (kept : Mismatch) (xs : List Mismatch) → warns kept ≡ true → Keeps kept xs
first_warning kept [] is = refl
first_warning kept (x ∷ xs) is = warning_then kept x xs (warns x) is (first_warning kept xs is) refl

first_kept : (kept : Mismatch) (xs : List Mismatch) (warning : Bool) → warns kept ≡ warning
    → with_further First (kept ∷ []) xs ≡ asked_of First (kept ∷ xs)
first_kept kept xs true is = first_warning kept xs is ∙ rw is refl
first_kept kept xs false is = first_error kept xs is ∙ rw is refl

-- those that are kept are those that are looked for
pub asked_are : (extent : Extent) (all : List Mismatch) → with_further extent [] all ≡ asked_of extent all
asked_are All all = all_kept [] all
asked_are First [] = refl
asked_are First (x ∷ xs) = first_kept x xs (warns x) refl

abbrev pub told : List Mismatch → Answer (List Mismatch)
told mismatches = Ok mismatches

-- `xs` are the first of those that are left, and are added
pub further_more : (extent : Extent) (before left xs rest new all : List Mismatch)
    → with_further extent before left ≡ all → left ≡ xs ++ rest
    → told (with_further extent before xs) ≡ Ok new → with_further extent new rest ≡ all
further_more extent before left xs rest new all so_far first is =
    let same = ok_is (with_further extent before xs) new is in
    let together = rw first at so_far in
    rw (← same) (further_then extent before xs rest ∙ together)

-- nothing is left
pub further_end : (extent : Extent) (before left all : List Mismatch) → with_further extent before left ≡ all
    → left ≡ [] → told all ≡ Ok before
further_end extent before left all so_far none =
    let same = rw none at so_far in ap told (sym same ∙ refl)

-- all that are looked for were added, some after others
pub asked_in_two : (extent : Extent) (first second one both : List Mismatch)
    → told (with_further extent [] first) ≡ Ok one
    → told (with_further extent one second) ≡ Ok both → told (asked_of extent (first ++ second)) ≡ Ok both
asked_in_two extent first second one both before behind =
    let is = ok_is (with_further extent [] first) one before in
    ap told (sym (asked_are extent (first ++ second)) ∙ sym (further_then extent [] first second)
    ∙ ap (λ (kept : List Mismatch). with_further extent kept second) is) ∙ behind

-- the mismatches from the first on were added, and nothing is left
pub asked_end : (extent : Extent) (kept left all : List Mismatch)
    → with_further extent kept left ≡ with_further extent [] all → left ≡ [] → told (asked_of extent all) ≡ Ok kept
asked_end extent kept left all so_far none =
    ap told (sym (asked_are extent all)) ∙ further_end extent kept left (with_further extent [] all) so_far none

-- some mismatches were added, and then others
pub further_two : (extent : Extent) (before first second one both : List Mismatch)
    → told (with_further extent before first) ≡ Ok one → both ≡ with_further extent one second
    → told (with_further extent before (first ++ second)) ≡ Ok both
further_two extent before first second one both added others =
    let is = ok_is (with_further extent before first) one added in
    ap told (sym (further_then extent before first second)
    ∙ ap (λ (kept : List Mismatch). with_further extent kept second) is ∙ sym others)
