-- The pages of a stream, and how many they are.
use Rattle.std.proofs.Common.{◌≡◌, ℕ, ◌+◌, ◌≤◌, List, [], ◌++◌, length, map, drop, refl}
use Rattle.std.proofs.Common.{sym, ap, ◌∙◌, arith, None, Ok, Err}
use Rattle.std.specs.List.{flat_map, range_with_len}
use Rattle.std.proofs.Math.Nat.{div-le_self}
use Rattle.std.proofs.lemmas.List.{flat_map_more, length-map}
use Rattle.std.proofs.lemmas.List.FromFn.{length-map-range_with_len}
use Rattle.pdb_base.specs.Answer.{Answer, ◌>>=◌}
use Rattle.pdb_base.specs.Refusal.{Refusal}
use Rattle.pdb_base.proofs.lemmas.Collected.{bind_ok, collects_all, ok_is}
use Rattle.pdb_msf.specs.Directory.{PagesOfStream, stream_entry_of, limit_size, stream_place_in}
use Rattle.pdb_msf.specs.Layout.{LayoutValue, pages_by, size_by}
use Rattle.pdb_msf.specs.Pages.{page_number, page_numbers, pages, words}
use Rattle.pdb_msf.specs.declared.directory.StreamPlace.{StreamPlace}
use Rattle.pdb_validation.proofs.PlaceLemmas.{range_more}
use Rattle.pdb_validation.specs.PageOwners.{owners_of_stream, pages_or_none}

pages_near : (page_size size : ℕ) → pages page_size size ≤ size + 1
unfolding pages
pages_near page_size size = let part = div-le_self size page_size in omega (arith, part)

numbers_many : (pages_used count : ℕ) (words numbers : List ℕ) → page_numbers pages_used count words ≡ Ok numbers
    → length numbers ≡ count
unfolding page_numbers
numbers_many pages_used count words numbers is =
    let each = (collects_all (map (page_number pages_used words) (range_with_len 0 count))).0 numbers is in
    sym (sym (length-map-range_with_len (page_number pages_used words) 0 count) ∙ ap length each
    ∙ length-map numbers (λ (x : ℕ). Ok x))

numbers_few : (pages_used page_size size : ℕ) (words numbers : List ℕ)
    → page_numbers pages_used (pages page_size size) words ≡ Ok numbers → length numbers ≤ size + 1
numbers_few pages_used page_size size words numbers is =
    let near = pages_near page_size size in
    let many = numbers_many pages_used (pages page_size size) words numbers is in
    omega arith

entry_few : (pages_used page_size size : ℕ) (place : Answer StreamPlace) (words : StreamPlace → List ℕ)
    (entry : StreamPlace → List ℕ → PagesOfStream) (numbers : List ℕ)
    → ((p : StreamPlace) (xs : List ℕ) → (entry p xs).pages ≡ xs)
    → (place >>= λ p. Ok p.size) ≡ Ok size
    → ((place >>= λ p. page_numbers pages_used (pages page_size p.size) (words p) >>= λ xs. Ok (entry p xs))
    >>= λ e. Ok e.pages) ≡ Ok numbers
    → length numbers ≤ size + 1
entry_few pages_used page_size size (Ok place) words entry numbers gives sized is =
    let read = bind_ok
    (page_numbers pages_used (pages page_size place.size) (words place) >>= λ xs. Ok (entry place xs))
    (λ e. Ok e.pages) numbers is in
    let all = bind_ok (page_numbers pages_used (pages page_size place.size) (words place))
    (λ xs. Ok (entry place xs)) read.0 read.1 in
    let same : numbers ≡ all.0 = sym (ok_is read.0.pages numbers read.2)
    ∙ ap (λ (e : PagesOfStream). e.pages) (sym (ok_is (entry place all.0) read.0 all.2)) ∙ gives place all.0 in
    let few = numbers_few pages_used page_size place.size (words place) all.0 all.1 in
    let size_is = ok_is place.size size sized in
    rw same (omega arith)
entry_few pages_used page_size size (Err refusal) words entry numbers gives sized is = absurd cc

-- a stream has at most one page more than bytes
pub pages_few : (layout : LayoutValue) (n size : ℕ) (numbers : List ℕ) → size_by layout n ≡ Ok size
    → pages_by layout n ≡ Ok numbers → length numbers ≤ size + 1
unfolding stream_entry_of
pages_few layout n size numbers sized is =
    entry_few layout.head.geometry.pages_used layout.head.geometry.page_size size
    (stream_place_in layout.head.geometry.page_size n layout.directory) (λ p. words (drop p.start layout.directory))
    (λ p xs. record { size = limit_size p.size None; pages = xs }) numbers (λ p xs. refl) sized is

without_place : (place : Answer StreamPlace) (more : StreamPlace → Answer PagesOfStream) (refusal : Refusal)
    → (place >>= λ p. Ok p.size) ≡ Err refusal → pages_or_none ((place >>= more) >>= λ e. Ok e.pages) ≡ []
without_place (Ok place) more refusal is = absurd cc
without_place (Err other) more refusal is = refl

-- a stream without a size has no pages
pub no_owners : (layout : LayoutValue) (n : ℕ) (refusal : Refusal) → size_by layout n ≡ Err refusal
    → owners_of_stream layout n ≡ []
unfolding stream_entry_of
no_owners layout n refusal is =
    let geometry = layout.head.geometry in
    let none = without_place (stream_place_in geometry.page_size n layout.directory) (λ place.
    page_numbers geometry.pages_used (pages geometry.page_size place.size) (words (drop place.start layout.directory))
    >>= λ numbers. Ok (record { size = limit_size place.size None; pages = numbers })) refusal is in
    rw none refl

-- the pages of one stream more
pub owners_more : {A : Type 0} (of : ℕ → List A) (front old new : List A) (n : ℕ)
    → old ≡ front ++ flat_map of (range_with_len 0 n) → old ++ of n ≡ new
    → new ≡ front ++ flat_map of (range_with_len 0 (n + 1))
owners_more {A} of front old new n so_far is =
    sym is ∙ ap (λ (xs : List A). xs ++ of n) so_far ∙ flat_map_more of front (range_with_len 0 n) n
    ∙ ap (λ (ns : List ℕ). front ++ flat_map of ns) (sym (range_more 0 n n (omega arith)))
