-- Where a stream is in a directory, and the places that are kept.
use Rattle.std.proofs.Common.{◌≡◌, ℕ, suc, ◌+◌, ◌*◌, ◌/◌, ◌<◌, ◌≤◌, min, List, [], length, get_or, drop, map, refl, sym}
use Rattle.std.proofs.Common.{ap, ◌∙◌, arith, Option, Some, None, Ok, Err}
use Rattle.std.proofs.lemmas.Bool.{lt-ltb, le-leb, lt-leb, ne_eqb}
use Rattle.std.proofs.lemmas.List.{drop-drop, drop_min, length-drop}
use Rattle.std.proofs.lemmas.List.FromFn.{get_or-map-range_with_len, length-map-range_with_len}
use Rattle.std.proofs.lemmas.Option.{slice_get_within, get_or_from_slice_get}
use Rattle.std.specs.List.{range_with_len, slice_get}
use Rattle.pdb_base.specs.Refusal.{Refusal, unexpected_eof}
use Rattle.pdb_base.specs.Place.{Place, left}
use Rattle.pdb_base.specs.Answer.{Answer}
use Rattle.pdb_msf.specs.Pages.{pages, page_numbers, present, words}
use Rattle.pdb_msf.specs.declared.header.Geometry.{Geometry}
use Rattle.pdb_msf.specs.declared.directory.StreamPlace.{StreamPlace}
use Rattle.pdb_msf.specs.Directory.{absent, first_word, stream_entry_of, limit_size, pages_taken, stream_place_in}
use Rattle.pdb_msf.specs.Directory.{sizes_of, start_of, starts_of}
use Rattle.pdb_msf.proofs.WordLemmas.{length-words, word_past, word_there, words-drop, total_more}

-- A directory counts stream n, and has its size.
pub record HasSize (n : ℕ) (d : List ℕ) (count size : ℕ) : Type 0 where
  pub counted : slice_get (words d) 0 ≡ Some count
  pub known : n < count
  pub is : slice_get (sizes_of d) n ≡ Some size

pub has_size : (n : ℕ) (d : List ℕ) (count size : ℕ) → present (slice_get (words d) 0) ≡ Ok count → n < count
    → present (slice_get (sizes_of d) n) ≡ Ok size → HasSize n d count size
has_size n d count size counted known is =
    record { counted = word_there _ count counted; known = known; is = word_there _ size is }

pub unreached : (page_size n : ℕ) (d : List ℕ) (count size : ℕ) → HasSize n d count size → (size ≡ absent → ⊥)
    → length d < start_of page_size count d n → stream_place_in page_size n d ≡ Err unexpected_eof
unfolding stream_place_in
unreached page_size n d count size sized there past =
    rw (
      sized.counted,
      lt-ltb n count sized.known,
      sized.is,
      ne_eqb size absent there,
      lt-leb (start_of page_size count d n) (length d) past,
    ) refl

pub stands : (page_size n : ℕ) (d : List ℕ) (count size : ℕ) → HasSize n d count size → (size ≡ absent → ⊥)
    → start_of page_size count d n ≤ length d
    → stream_place_in page_size n d ≡ Ok (record { size = size; start = start_of page_size count d n })
unfolding stream_place_in
stands page_size n d count size sized there reached =
    rw (
      sized.counted,
      lt-ltb n count sized.known,
      sized.is,
      ne_eqb size absent there,
      le-leb (start_of page_size count d n) (length d) reached,
    ) refl

-- ---- positions in a directory

-- the words from the first one on
pub all_left : (d slice : List ℕ) (start : Place) → slice ≡ d → start ≡ record { slice = slice; pos = 0 }
    → words (left start) ≡ words d
all_left d slice start whole begins = ap (λ (p : Place). words (left p)) begins ∙ ap words whole

-- those from an offset on
numbers_left : (at : ℕ) (d slice : List ℕ) (start place : Place) → slice ≡ d
    → start ≡ record { slice = slice; pos = 0 } → place ≡ record start { pos = min at (length start.slice) }
    → words (left place) ≡ words (drop at d)
numbers_left at d slice start place whole begins sought =
    let same : start.slice ≡ d = ap (λ (p : Place). p.slice) begins ∙ whole in
    ap (λ (p : Place). words (left p)) sought ∙ ap (λ (s : List ℕ). words (drop (min at (length s)) s)) same
    ∙ ap words (drop_min at d)

-- the sizes from that of stream n on
pub sizes_left : (n : ℕ) (d slice : List ℕ) (start place : Place) → slice ≡ d
    → start ≡ record { slice = slice; pos = 0 } → place ≡ record start { pos = min (4 + 4 * n) (length start.slice) }
    → words (left place) ≡ drop n (sizes_of d)
sizes_left n d slice start place whole begins sought =
    let fours : 4 + 4 * n ≡ 4 * suc n = omega arith in
    let next : 1 + n ≡ suc n = omega arith in
    numbers_left (4 + 4 * n) d slice start place whole begins sought
    ∙ ap (λ (k : ℕ). words (drop k d)) fours
    ∙ words-drop (suc n) d
    ∙ sym (drop-drop n 1 (words d) ∙ ap (λ (k : ℕ). drop k (words d)) next)

-- ---- the places that are kept

-- the first word is the count
pub count_is : (d : List ℕ) (count : ℕ) → slice_get (words d) 0 ≡ Some count → first_word d ≡ count
count_is d count counted = get_or_from_slice_get (words d) 0 count 0 counted

-- as many sizes stand in the directory as there are whole fours behind the count
pub known_is : (d rest : List ℕ) (count known : ℕ) → words rest ≡ sizes_of d → known ≡ min count (length rest / 4)
    → known ≡ min count (length (sizes_of d))
known_is d rest count known behind is =
    let fours = length-words rest in
    let same : length (words rest) ≡ length (sizes_of d) = ap length behind in
    let whole : length rest / 4 ≡ length (sizes_of d) = omega (arith, same, fours.0, fours.1) in
    is ∙ ap (min count) whole

-- where there is no count there is no place
pub no_starts : (page_size : ℕ) (d : List ℕ) → slice_get (words d) 0 ≡ None → starts_of page_size d ≡ []
no_starts page_size d none =
    let empty : length (words d) ≤ 0 = word_past (words d) 0 none in
    let no_sizes : length (sizes_of d) ≡ 0 = omega (arith, length-drop 1 (words d), empty) in
    let known : min (first_word d) (length (sizes_of d)) ≡ 0 = omega arith in
    ap (λ (n : ℕ). map (start_of page_size (first_word d) d) (range_with_len 0 n)) known

-- a stream with a size has a place
pub start_within : (page_size n : ℕ) (d starts : List ℕ) (count size : ℕ) → starts ≡ starts_of page_size d
    → HasSize n d count size → n < length starts
start_within page_size n d starts count size are sized =
    let within : n < length (sizes_of d) = slice_get_within (sizes_of d) n size sized.is in
    let first = count_is d count sized.counted in
    let known = sized.known in
    let long : length starts ≡ min (first_word d) (length (sizes_of d)) =
    ap length are ∙ length-map-range_with_len (start_of page_size (first_word d) d) 0
    (min (first_word d) (length (sizes_of d))) in
    omega arith

pub start_is : (page_size n : ℕ) (d starts : List ℕ) (count size other : ℕ) → starts ≡ starts_of page_size d
    → HasSize n d count size → get_or starts n other ≡ start_of page_size count d n
start_is page_size n d starts count size other are sized =
    let within : n < length (sizes_of d) = slice_get_within (sizes_of d) n size sized.is in
    let first = count_is d count sized.counted in
    let known = sized.known in
    ap (λ (s : List ℕ). get_or s n other) are
    ∙ get_or-map-range_with_len (start_of page_size (first_word d) d) 0
    (min (first_word d) (length (sizes_of d))) n n other
    (omega arith) (omega arith)
    ∙ ap (λ (k : ℕ). start_of page_size k d n) first

-- the place behind one stream more
pub next_start : (page_size count n size : ℕ) (d : List ℕ) → slice_get (sizes_of d) n ≡ Some size
    → start_of page_size count d (n + 1) ≡ start_of page_size count d n + 4 * pages_taken page_size size
next_start page_size count n size d is = omega (arith, total_more (pages_taken page_size) (sizes_of d) n size is)

-- ---- the page numbers

pub entry_found : (g : Geometry) (n : ℕ) (limit : Option ℕ) (d : List ℕ) (place : StreamPlace) (numbers : List ℕ)
    → stream_place_in g.page_size n d ≡ Ok place
    → page_numbers g.pages_used (pages g.page_size place.size) (words (drop place.start d)) ≡ Ok numbers
    → stream_entry_of g n limit d ≡ Ok (record { size = limit_size place.size limit; pages = numbers })
unfolding stream_entry_of
entry_found g n limit d place numbers here good = rw (here, good) refl

pub entry_refused : (g : Geometry) (n : ℕ) (limit : Option ℕ) (d : List ℕ) (place : StreamPlace) (e : Refusal)
    → stream_place_in g.page_size n d ≡ Ok place
    → page_numbers g.pages_used (pages g.page_size place.size) (words (drop place.start d)) ≡ Err e
    → stream_entry_of g n limit d ≡ Err e
unfolding stream_entry_of
entry_refused g n limit d place e here bad = rw (here, bad) refl

-- the page numbers that are read at the place of a stream
pub numbers_read : (g : Geometry) (size at count : ℕ) (d slice : List ℕ) (start place : Place)
    (answer : Answer (List ℕ)) → slice ≡ d → start ≡ record { slice = slice; pos = 0 }
    → place ≡ record start { pos = min at (length start.slice) }
    → count ≡ pages g.page_size size → page_numbers g.pages_used count (words (left place)) ≡ answer
    → page_numbers g.pages_used (pages g.page_size size) (words (drop at d)) ≡ answer
numbers_read g size at count d slice start place answer whole begins sought counted are =
    ap (λ (n : ℕ). page_numbers g.pages_used n (words (drop at d))) (sym counted)
    ∙ ap (page_numbers g.pages_used count) (sym (numbers_left at d slice start place whole begins sought))
    ∙ are
