-- The pages that have an owner, marked in a list.
use Rattle.std.proofs.Common.{◌≡◌, ◌≢◌, ℕ, ◌<◌, Bool, true, false, ◌&&◌, ◌||◌, nat_lt, eqb, List, [], ◌∷◌, ◌++◌, length}
use Rattle.std.proofs.Common.{drop}
use Rattle.std.proofs.Common.{get_or, set, suc, zero, replicate, refl, sym, ap, ◌∙◌, arith, inl, inr, Ok, Option, ◌+◌}
use Rattle.std.proofs.lemmas.List.{at_drop_more, get_or-set_other, length-replicate, length-set}
use Rattle.std.proofs.lemmas.Grind.{get_or-set_at}
use Rattle.std.proofs.lemmas.Bool.{cases_lt, eqb-false, eqb-true, le-ltb}
use Rattle.std.specs.Bool.{then_some}
use Rattle.std.specs.Option.{option_to_list}
use Rattle.pdb_validation.specs.Mismatch.{asked_of, with_further}
use Rattle.pdb_validation.proofs.MismatchLemmas.{asked_in_two, further_more, told}
use Rattle.std.specs.Int.{div_ceil}
use Rattle.pdb_base.specs.Answer.{Answer}
use Rattle.pdb_base.proofs.lemmas.Collected.{ok_is}
use Rattle.pdb_msf.specs.Layout.{LayoutValue}
use Rattle.pdb_validation.specs.PageOwners.{layout_owners}
use Rattle.pdb_validation.specs.Pages.{at_page, has_owner, is_owned, is_reserved, shared_pages}
use Rattle.pdb_validation.specs.Pages.{active_map, layout_mismatches, free_page, free_pages, is_free, is_in_use}
use Rattle.pdb_validation.specs.declared.inconsistency.Inconsistency.TheVariants.{PageFree, PageShared}
use Rattle.pdb_validation.specs.declared.mismatch.Extent.{Extent}
use Rattle.pdb_validation.specs.declared.mismatch.Mismatch.{Mismatch}
use Rattle.pdb_validation.specs.declared.page_owners.PageOwner.{PageOwner}

-- The pages of a file of `count` pages that have an owner are marked.
pub record IsMarked (count : ℕ) (before : List PageOwner) (owned : List Bool) : Type 0 where
  pub many : length owned ≡ count
  pub each : (page : ℕ) → page < count → get_or owned page false ≡ has_owner page before

none_marked : (count page : ℕ) → get_or (replicate count false) page false ≡ false
none_marked zero page = refl
none_marked (suc count) zero = refl
none_marked (suc count) (suc page) = none_marked count page

pub marked_none : (count : ℕ) (owned : List Bool) → owned ≡ replicate count false → IsMarked count [] owned
marked_none count owned is = rw is
    (record { many = length-replicate count false; each = λ page below. none_marked count page })

one_marked : (count : ℕ) (before : List PageOwner) (owned : List Bool) (owner : PageOwner) (page : ℕ) (same : Bool)
    → IsMarked count before owned → page < count → eqb owner.page page ≡ same
    → get_or (set owned owner.page true) page false ≡ (same || has_owner page before)
one_marked count before owned owner page true are below test =
    let same = eqb-true owner.page page test in
    get_or-set_at owned owner.page page true false (sym same) (omega (arith, are.many))
one_marked count before owned owner page false are below test =
    let other : page ≢ owner.page = λ e. eqb-false owner.page page test (sym e) in
    get_or-set_other owned owner.page page true false other ∙ are.each page below

pub marked_more : (count : ℕ) (before : List PageOwner) (owned new : List Bool) (owner : PageOwner)
    → IsMarked count before owned → new ≡ set owned owner.page true → IsMarked count (owner ∷ before) new
marked_more count before owned new owner are is = rw is (record {
  many = length-set owned owner.page true ∙ are.many;
  each = λ page below. one_marked count before owned owner page (eqb owner.page page) are below refl;
})

-- what is tested of the marks is what the definition says
owned_by_mark : (page_size count : ℕ) (before : List PageOwner) (owned : List Bool) (page : ℕ) (marked : Bool)
    → IsMarked count before owned → marked ≡ get_or owned page false
    → (nat_lt page count && (is_reserved page_size page || marked)) ≡ is_owned page_size count before page
owned_by_mark page_size count before owned page marked are is = elim (cases_lt page count) [
  | inl below ↦ let same : marked ≡ has_owner page before = is ∙ are.each page below in rw same refl
  | inr past ↦ let test = le-ltb page count past in rw test refl
]

-- the mismatch of one page more, if it has an owner already
pub shared_more : (extent : Extent) (page_size count i : ℕ) (before owners : List PageOwner) (d : PageOwner)
    (owned : List Bool) (now new all : List Mismatch) (is marked : Bool) (mismatch : Mismatch)
    (given : Option Mismatch)
    → i < length owners → IsMarked count before owned
    → with_further extent now (shared_pages page_size count before (drop i owners)) ≡ all
    → marked ≡ get_or owned (get_or owners i d).page false
    → is ≡ (nat_lt (get_or owners i d).page count && (is_reserved page_size (get_or owners i d).page || marked))
    → mismatch ≡ at_page (get_or owners i d) (PageShared (get_or owners i d).page)
    → given ≡ then_some is mismatch → told (with_further extent now (option_to_list given)) ≡ Ok new
    → with_further extent new (shared_pages page_size count (get_or owners i d ∷ before) (drop (i + 1) owners)) ≡ all
shared_more extent page_size count i before owners d owned now new all is marked mismatch given within are left mark
    test made some added =
    let owner = get_or owners i d in
    let owned_is = test ∙ owned_by_mark page_size count before owned owner.page marked are mark in
    let same : option_to_list (then_some (is_owned page_size count before owner.page)
    (at_page owner (PageShared owner.page))) ≡ option_to_list given = rw (some, owned_is, made) refl in
    further_more extent now _ (option_to_list given) _ new all left
    (at_drop_more (shared_pages page_size count before) owners i d within
    ∙ ap (λ (xs : List Mismatch). xs ++ shared_pages page_size count (owner ∷ before) (drop (i + 1) owners)) same) added

abbrev tested : Bool → Answer Bool
tested is = Ok is

-- the mismatch of one page more, if it is marked as free
pub free_more : (extent : Extent) (file : List ℕ) (page_size i : ℕ) (owners : List PageOwner) (d : PageOwner)
    (now new all : List Mismatch) (is : Bool) (mismatch : Mismatch) (given : Option Mismatch) (read : List ℕ) (size : ℕ)
    → i < length owners → with_further extent now (free_pages file page_size (drop i owners)) ≡ all
    → read ≡ file → size ≡ page_size
    → tested (is_in_use (get_or owners i d).stream && is_free read size (active_map read) (get_or owners i d).page)
    ≡ Ok is
    → mismatch ≡ at_page (get_or owners i d) (PageFree (get_or owners i d).page)
    → given ≡ then_some is mismatch → told (with_further extent now (option_to_list given)) ≡ Ok new
    → with_further extent new (free_pages file page_size (drop (i + 1) owners)) ≡ all
free_more extent file page_size i owners d now new all is mismatch given read size within left here sized test made some
    added =
    let owner = get_or owners i d in
    let tests : tested (is_in_use owner.stream && is_free file page_size (active_map file) owner.page) ≡ Ok is =
    rw (here, sized) at test in
    let same : free_page file page_size owner ≡ option_to_list given = rw (some, made, ok_is _ is tests) refl in
    further_more extent now _ (option_to_list given) _ new all left
    (at_drop_more (free_pages file page_size) owners i d within
    ∙ ap (λ (xs : List Mismatch). xs ++ free_pages file page_size (drop (i + 1) owners)) same) added

abbrev told_owners : List PageOwner → Answer (List PageOwner)
told_owners owners = Ok owners

abbrev counted : ℕ → Answer ℕ
counted n = Ok n

-- the pages that are shared were added, and then those that are free
pub layout_told : (extent : Extent) (file sized read : List ℕ) (layout : LayoutValue)
    (page_size free_size size count : ℕ) (owners first second : List PageOwner) (none one both : List Mismatch)
    → page_size ≡ layout.head.geometry.page_size → sized ≡ file → counted (length sized) ≡ Ok size
    → count ≡ div_ceil size page_size
    → told_owners (layout_owners file layout) ≡ Ok owners → first ≡ owners → second ≡ owners → none ≡ []
    → told (with_further extent none (shared_pages page_size count [] first)) ≡ Ok one
    → read ≡ file → free_size ≡ page_size
    → told (with_further extent one (free_pages read free_size second)) ≡ Ok both
    → told (asked_of extent (layout_mismatches file layout)) ≡ Ok both
unfolding layout_mismatches
layout_told extent file sized read layout page_size free_size size count owners first second none one both paged same
    ends many of here again empty shared reads frees free =
    let all = ok_is (layout_owners file layout) owners of in
    let pages = layout.head.geometry.page_size in
    let long : size ≡ length file = sym (ok_is (length sized) size ends) ∙ ap (λ (f : List ℕ). length f) same in
    asked_in_two extent (shared_pages pages (div_ceil (length file) pages) [] (layout_owners file layout))
    (free_pages file pages (layout_owners file layout)) one both
    (rw all (rw (empty, many, long, paged, here) at shared)) (rw all (rw (reads, frees, paged, again) at free))
