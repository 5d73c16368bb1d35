-- The slices into which pages are joined are their longest runs.
use Rattle.std.proofs.Common.{◌≡◌, ℕ, zero, suc, ◌+◌, ◌-◌, ◌*◌, ◌<◌, ◌≢◌, true, false, eqb, cond, List, [], ◌∷◌, ◌++◌}
use Rattle.std.proofs.Common.{map, refl, sym, ap, ◌∙◌, arith, inl, inr, append_assoc}
use Rattle.std.specs.List.{flat_map, range_with_len, fold}
use Rattle.std.proofs.lemmas.Bool.{eq-eqb, ne_eqb}
use Rattle.std.proofs.Math.Nat.{eq_of_mul-eq-mul_left}
use Rattle.std.proofs.lemmas.Bool.Decides.{eqb_tells}
use Rattle.std.proofs.lemmas.List.{append-nil}
use Rattle.std.proofs.lemmas.List.Sums.{fold-append}
use Rattle.pdb_msf.specs.declared.source.SourceSlice.{SourceSlice}
use Rattle.pdb_msf.specs.PageList.{page_slice, join_slices, with_slice}
use Rattle.pdb_msf.specs.Runs.{Run, run_pages, run_slice, BeginElsewhere, AreLongest, AreJoined}
use Rattle.pdb_msf.proofs.SliceLemmas.{range_joined}

-- ---- runs with one page more

abbrev single : ℕ → Run
single page = record { first = page; count = 1 }

abbrev longer : Run → ℕ → Run
longer run more = record run { count = run.count + more }

-- a run with a page behind it
with_next : Run → ℕ → List Run
with_next run page = cond (eqb (run.first + run.count) page) (longer run 1 ∷ []) (run ∷ single page ∷ [])

abbrev with_page : List Run → ℕ → List Run
with_page [] page = single page ∷ []
with_page (run ∷ []) page = with_next run page
with_page (run ∷ (next ∷ runs)) page = run ∷ with_page (next ∷ runs) page

-- its slices are the slices with the page's behind them
same_end : (page_size end page : ℕ) → 0 < page_size → end * page_size ≡ page * page_size → end ≡ page
same_end page_size end page positive same = eq_of_mul-eq-mul_left page_size positive end page (omega arith)

next_slices : (page_size : ℕ) (run : Run) (page : ℕ) → 0 < page_size
    → map (run_slice page_size) (with_next run page) ≡ join_slices (run_slice page_size run) (page_slice page_size page)
unfolding with_next join_slices
next_slices page_size run page positive = elim (eqb_tells (run.first + run.count) page) [
  | inl meets ↦
      let end : run.first * page_size + run.count * page_size ≡ (run.first + run.count) * page_size = omega arith in
      let test : eqb (run.first * page_size + run.count * page_size) (page * page_size) ≡ true =
      eq-eqb _ _ (end ∙ ap (λ (n : ℕ). n * page_size) meets.1) in
      let size : (run.count + 1) * page_size ≡ run.count * page_size + page_size = omega arith in
      rw (meets.0, test) (ap (λ (n : ℕ). record { offset = run.first * page_size; size = n } ∷ []) size)
  | inr apart ↦
      let test : eqb (run.first * page_size + run.count * page_size) (page * page_size) ≡ false =
      ne_eqb _ _ (λ same. apart.1 (same_end page_size (run.first + run.count) page positive (omega arith))) in
      let size : 1 * page_size ≡ page_size = omega arith in
      rw (apart.0, test) (ap (λ (n : ℕ). run_slice page_size run ∷ record { offset = page * page_size; size = n }
      ∷ []) size)
]

page_slices : (page_size : ℕ) (runs : List Run) (page : ℕ) → 0 < page_size
    → map (run_slice page_size) (with_page runs page)
    ≡ with_slice (map (run_slice page_size) runs) (page_slice page_size page)
unfolding with_slice
page_slices page_size [] page positive =
    let size : 1 * page_size ≡ page_size = omega arith in
    ap (λ (n : ℕ). record { offset = page * page_size; size = n } ∷ []) size
page_slices page_size (run ∷ []) page positive = next_slices page_size run page positive
page_slices page_size (run ∷ (next ∷ runs)) page positive =
    ap (λ (s : List SourceSlice). run_slice page_size run ∷ s) (page_slices page_size (next ∷ runs) page positive)

pages_slices : (page_size : ℕ) (runs : List Run) (pages : List ℕ) → 0 < page_size
    → fold (λ slices page. with_slice slices (page_slice page_size page)) (map (run_slice page_size) runs) pages
    ≡ map (run_slice page_size) (fold with_page runs pages)
pages_slices page_size runs [] positive = refl
pages_slices page_size runs (page ∷ pages) positive =
    ap (λ (s : List SourceSlice). fold (λ slices page. with_slice slices (page_slice page_size page)) s pages)
    (sym (page_slices page_size runs page positive))
    ∙ pages_slices page_size (with_page runs page) pages positive

-- ---- they are laid end to end

next_laid : (run : Run) (page : ℕ) → flat_map run_pages (with_next run page) ≡ run_pages run ++ page ∷ []
unfolding with_next
next_laid run page = elim (eqb_tells (run.first + run.count) page) [
  | inl meets ↦ rw meets.0 (append-nil (range_with_len run.first (run.count + 1)) ∙ range_joined run.first run.count 1
      ∙ ap (λ (n : ℕ). run_pages run ++ n ∷ []) meets.1)
  | inr apart ↦ rw apart.0 refl
]

page_laid : (runs : List Run) (page : ℕ) → flat_map run_pages (with_page runs page) ≡ flat_map run_pages runs ++ page
    ∷ []
page_laid [] page = refl
page_laid (run ∷ []) page = next_laid run page ∙ ap (λ (r : List ℕ). r ++ page ∷ []) (sym (append-nil (run_pages run)))
page_laid (run ∷ (next ∷ runs)) page =
    ap (λ (r : List ℕ). run_pages run ++ r) (page_laid (next ∷ runs) page)
    ∙ sym (append_assoc (run_pages run) (flat_map run_pages (next ∷ runs)) (page ∷ []))

pages_laid : (runs : List Run) (pages : List ℕ)
    → flat_map run_pages (fold with_page runs pages) ≡ flat_map run_pages runs ++ pages
pages_laid runs [] = sym (append-nil (flat_map run_pages runs))
pages_laid runs (page ∷ pages) =
    pages_laid (with_page runs page) pages ∙ ap (λ (r : List ℕ). r ++ pages) (page_laid runs page)
    ∙ append_assoc (flat_map run_pages runs) (page ∷ []) pages

-- ---- they could not be longer

elsewhere : (end : ℕ) (run : Run) (runs : List Run) (page : ℕ) → run.first ≢ end
    → BeginElsewhere end (with_page (run ∷ runs) page)
unfolding with_next
elsewhere end run [] page other = elim (eqb_tells (run.first + run.count) page)
    [ inl meets ↦ rw meets.0 other | inr apart ↦ rw apart.0 other ]
elsewhere end run (next ∷ runs) page other = other

longest : (runs : List Run) (page : ℕ) → AreLongest runs → AreLongest (with_page runs page)
unfolding with_next
longest [] page are = (omega arith, tt, tt)
longest (run ∷ []) page are = elim (eqb_tells (run.first + run.count) page) [
  | inl meets ↦ rw meets.0 (omega arith, tt, tt)
  | inr apart ↦ rw apart.0 (are.0, λ same. apart.1 (sym same), (omega arith, tt, tt))
]
longest (run ∷ (next ∷ runs)) page are = (
  are.0,
  elsewhere (run.first + run.count) next runs page are.1,
  longest (next ∷ runs) page are.2,
)

all_longest : (runs : List Run) (pages : List ℕ) → AreLongest runs → AreLongest (fold with_page runs pages)
all_longest runs [] are = are
all_longest runs (page ∷ pages) are = all_longest (with_page runs page) pages (longest runs page are)

-- ---- and there are no others

joins : (run : Run) (page : ℕ) → page ≡ run.first + run.count → with_next run page ≡ longer run 1 ∷ []
unfolding with_next
joins run page meets = let test : eqb (run.first + run.count) page ≡ true = eq-eqb _ _ (sym meets) in rw test refl

begins : (run : Run) (page : ℕ) → page ≢ run.first + run.count → with_next run page ≡ run ∷ single page ∷ []
unfolding with_next
begins run page apart = let test : eqb (run.first + run.count) page ≡ false = ne_eqb _ _ (λ same. apart (sym same)) in
    rw test refl

-- the pages behind a run lengthen it, each by one
grown : (run : Run) (more : ℕ) → fold with_page (run ∷ []) (range_with_len (run.first + run.count) more)
    ≡ longer run more ∷ []
grown run zero =
    let same : run.count ≡ run.count + 0 = omega arith in
    ap (λ (n : ℕ). record run { count = n } ∷ []) same
grown run (suc more) =
    let end : run.first + run.count + 1 ≡ run.first + (run.count + 1) = omega arith in
    let count : run.count + 1 + more ≡ run.count + suc more = omega arith in
    ap (λ (r : List Run). fold with_page r (range_with_len (run.first + run.count + 1) more))
    (joins run (run.first + run.count) refl)
    ∙ ap (λ (n : ℕ). fold with_page (longer run 1 ∷ []) (range_with_len n more)) end
    ∙ grown (longer run 1) more
    ∙ ap (λ (n : ℕ). record run { count = n } ∷ []) count

-- a run's pages are its first one and those that lengthen it
starts : (run : Run) → 0 < run.count → run_pages run ≡ run.first ∷ range_with_len (run.first + 1) (run.count - 1)
starts run some = let count : run.count ≡ suc (run.count - 1) = omega arith in ap (range_with_len run.first) count

whole : (run : Run) (pages : List ℕ) → 0 < run.count
    → fold with_page (single run.first ∷ []) (range_with_len (run.first + 1) (run.count - 1) ++ pages)
    ≡ fold with_page (run ∷ []) pages
whole run pages some =
    let count : 1 + (run.count - 1) ≡ run.count = omega arith in
    fold-append with_page (single run.first ∷ []) (range_with_len (run.first + 1) (run.count - 1)) pages
    ∙ ap (λ (r : List Run). fold with_page r pages)
    (grown (single run.first) (run.count - 1) ∙ ap (λ (n : ℕ). record run { count = n } ∷ []) count)

-- runs before the last one stay
stays : (run next : Run) (runs : List Run) (pages : List ℕ) → fold with_page (run ∷ (next ∷ runs)) pages ≡ run
    ∷ fold with_page (next ∷ runs) pages
unfolding with_next
stays run next runs [] = refl
stays run next [] (page ∷ pages) = elim (eqb_tells (next.first + next.count) page) [
  | inl meets ↦ rw meets.0 (stays run (longer next 1) [] pages)
  | inr apart ↦ rw apart.0 (stays run next (single page ∷ []) pages)
]
stays run next (other ∷ runs) (page ∷ pages) = stays run next (with_page (other ∷ runs) page) pages

behind : (run : Run) (runs : List Run) → AreLongest (run ∷ runs)
    → fold with_page (run ∷ []) (flat_map run_pages runs) ≡ run ∷ runs
behind run [] are = refl
behind run (next ∷ runs) are =
    ap (λ (r : List ℕ). fold with_page (run ∷ []) (r ++ flat_map run_pages runs)) (starts next are.2.0)
    ∙ ap (λ (r : List Run). fold with_page r (range_with_len (next.first + 1) (next.count - 1)
    ++ flat_map run_pages runs)) (begins run next.first are.1)
    ∙ stays run (single next.first) [] (range_with_len (next.first + 1) (next.count - 1) ++ flat_map run_pages runs)
    ∙ ap (λ (r : List Run). run ∷ r) (whole next (flat_map run_pages runs) are.2.0 ∙ behind next runs are.2)

unique : (runs : List Run) → AreLongest runs → fold with_page [] (flat_map run_pages runs) ≡ runs
unique [] are = refl
unique (run ∷ runs) are =
    ap (λ (r : List ℕ). fold with_page [] (r ++ flat_map run_pages runs)) (starts run are.0)
    ∙ whole run (flat_map run_pages runs) are.0 ∙ behind run runs are

pub are_joined : (page_size : ℕ) (pages : List ℕ) → 0 < page_size → AreJoined page_size pages
are_joined page_size pages positive = record {
  runs = fold with_page [] pages;
  are = record { laid = pages_laid [] pages; longest = all_longest [] pages tt };
  only = λ other are. sym (unique other are.longest) ∙ ap (fold with_page []) are.laid;
  slices = pages_slices page_size [] pages positive;
}
