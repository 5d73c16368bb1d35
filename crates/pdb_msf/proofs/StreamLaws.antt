-- The bytes of a stream, and that they are the same whatever was asked before.
use Rattle.std.proofs.Common.{◌≡◌, ℕ, zero, suc, ◌+◌, ◌*◌, ◌<◌, ◌≤◌, Bool, true, false, ltb, leb, eqb, List, [], ◌∷◌}
use Rattle.std.proofs.Common.{length, get_or, drop, take, map, refl, sym, ap, ◌∙◌, arith, inl, inr, subst, Option, Some}
use Rattle.std.proofs.Common.{Result, Ok, Err}
use Rattle.std.specs.Prelude.{not}
use Rattle.std.specs.List.{range_with_len, slice_get}
use Rattle.std.proofs.lemmas.Bool.{ltb-true, leb-true, lt-ltb, le-leb, eq-eqb}
use Rattle.std.proofs.lemmas.List.{take_all, take_more}
use Rattle.std.proofs.lemmas.Option.{slice_get-get_or}
use Rattle.pdb_base.specs.declared.error.Error.{Error}
use Rattle.pdb_base.specs.Refusal.{refusal_of, unexpected_eof, stream_not_found}
use Rattle.pdb_base.specs.Answer.{Answer, AnswersUnless, values_of_all, ok_if}
use Rattle.pdb_base.proofs.lemmas.Collected.{ok_is, err_is, ok_is_no_err, bind_ok, collected_more, required_holds}
use Rattle.pdb_msf.specs.declared.directory.StreamPlace.{StreamPlace}
use Rattle.pdb_msf.specs.Source.{HasFailed, bytes_or_eof}
use Rattle.pdb_msf.specs.Pages.{pages, page_number, page_numbers, present, scatter, words}
use Rattle.pdb_msf.specs.Header.{Head, directory_pages}
use Rattle.pdb_msf.specs.Directory.{PagesOfStream, absent, directory_numbers, directory_of, stream_entry_of, limit_size}
use Rattle.pdb_msf.specs.Directory.{stream_place_in, sizes_of, start_of}
use Rattle.pdb_msf.specs.File.{stream_of}
use Rattle.pdb_msf.specs.Laws.{AreGood, IsDirectory, IsStream, Moment, IsLater, AnswersAlike, AgreeUnless}
use Rattle.pdb_msf.proofs.lemmas.Kept.{kept_here, kept_then}
use Rattle.pdb_msf.proofs.PlaceLemmas.{HasSize, entry_found, stands}
use Rattle.pdb_msf.proofs.LawLemmas.{are_good, found_there, scatters}
use Rattle.pdb_msf.proofs.WordLemmas.{word_there}

-- ---- where a stream stands

sizes_follow : (n : ℕ) (all : List ℕ) → slice_get (drop 1 all) n ≡ slice_get all (1 + n)
sizes_follow n [] = refl
sizes_follow n (word ∷ all) = let next : 1 + n ≡ suc n = omega arith in
    ap (λ (i : ℕ). slice_get (word ∷ all) i) (sym next)

negated : (b : Bool) → not b ≡ true → b ≡ false
negated true is = absurd cc
negated false is = refl

-- a stream that has a place in a directory
record Stands (page_size n : ℕ) (d : List ℕ) (place : StreamPlace) : Type 0 where
  pub count : ℕ
  pub counted : slice_get (words d) 0 ≡ Some count
  pub known : n < count
  pub sized : slice_get (sizes_of d) n ≡ Some place.size
  pub there : place.size ≡ absent → ⊥
  pub is : place.start ≡ start_of page_size count d n
  pub reached : place.start ≤ length d

stands_where : (page_size n : ℕ) (d : List ℕ) (place : StreamPlace) → stream_place_in page_size n d ≡ Ok place
    → Stands page_size n d place
unfolding stream_place_in
stands_where page_size n d place e =
    let counted = bind_ok (present (slice_get (words d) 0)) _ place e in
    let known = bind_ok (ok_if (ltb n counted.0) (stream_not_found n)) _ place counted.2 in
    let sized = bind_ok (present (slice_get (sizes_of d) n)) _ place known.2 in
    let there = bind_ok (ok_if (not (eqb sized.0 absent)) (stream_not_found n)) _ place sized.2 in
    let start = start_of page_size counted.0 d n in
    let reached = bind_ok (ok_if (leb start (length d)) unexpected_eof) _ place there.2 in
    let meant : StreamPlace = record { size = sized.0; start = start } in
    let same : meant ≡ place = ok_is meant place reached.2 in
    let size : sized.0 ≡ place.size = ap (λ (p : StreamPlace). p.size) same in
    let begins : start ≡ place.start = ap (λ (p : StreamPlace). p.start) same in
    let within : start ≤ length d = leb-true start (length d) (required_holds _ unexpected_eof reached.0 reached.1) in
    let other = negated (eqb sized.0 absent) (required_holds _ (stream_not_found n) there.0 there.1) in
    record {
      count = counted.0;
      counted = word_there (slice_get (words d) 0) counted.0 counted.1;
      known = ltb-true n counted.0 (required_holds _ (stream_not_found n) known.0 known.1);
      sized = word_there (slice_get (sizes_of d) n) sized.0 sized.1 ∙ ap (λ (k : ℕ). Some k) size;
      there = λ gone. let equal : eqb sized.0 absent ≡ true = eq-eqb sized.0 absent (size ∙ gone) in cc;
      is = sym begins;
      reached = subst (λ (k : ℕ). k ≤ length d) begins within;
    }

-- ---- page numbers that are good are read

good_word : (pages_used : ℕ) (words : List ℕ) (i number : ℕ) → slice_get words i ≡ Some number → 0 < number
    → number ≤ pages_used → page_number pages_used words i ≡ Ok number
good_word pages_used words i number is some few = rw (is, lt-ltb 0 number some, le-leb number pages_used few) refl

up_to : (f : ℕ → Answer ℕ) (numbers : List ℕ) (count : ℕ) → ((i : ℕ) → i < count → f i ≡ Ok (get_or numbers i 0))
    → (k : ℕ) → k ≤ length numbers → k ≤ count → values_of_all (map f (range_with_len 0 k)) ≡ Ok (take k numbers)
up_to f numbers count one zero long few = refl
up_to f numbers count one (suc k) long few =
    let next : k + 1 ≡ suc k = omega arith in
    let before = up_to f numbers count one k (omega arith) (omega arith) in
    ap (λ (n : ℕ). values_of_all (map f (range_with_len 0 n))) (sym next)
    ∙ collected_more f k (take k numbers) (get_or numbers k 0) before (one k (omega arith))
    ∙ ap (λ (ns : List ℕ). Ok ns) (sym (take_more numbers k 0 (omega arith)) ∙ ap (λ (n : ℕ). take n numbers) next)

read_good : (pages_used count : ℕ) (words numbers : List ℕ) → AreGood pages_used count words numbers
    → page_numbers pages_used count words ≡ Ok numbers
unfolding page_numbers
read_good pages_used count words numbers good =
    let one : (i : ℕ) → i < count → page_number pages_used words i ≡ Ok (get_or numbers i 0) =
    λ i lt.
    let here = good.each i (get_or numbers i 0) (slice_get-get_or numbers i 0 (omega (arith, good.len, lt))) in
    good_word pages_used words i (get_or numbers i 0) here.0 here.1 here.2 in
    up_to (page_number pages_used words) numbers count one count (omega (arith, good.len)) (omega arith)
    ∙ ap (λ (ns : List ℕ). Ok ns) (take_all count numbers (omega (arith, good.len)))

-- ---- the directory

pub is_directory : (file : List ℕ) (head : Head) (directory : List ℕ) → directory_of file head ≡ Ok directory
    → IsDirectory file head directory
unfolding directory_of directory_numbers
is_directory file head directory e =
    let g = head.geometry in
    let numbers = bind_ok (directory_numbers file head) _ directory e in
    let location =
    bind_ok (bytes_or_eof (scatter file g.page_size head.location (4 * directory_pages g))) _ numbers.0 numbers.1 in
    record {
      location = location.0;
      located = (scatters file g.page_size head.location (4 * directory_pages g)).found location.0
          (found_there _ location.0 location.1);
      numbers = numbers.0;
      good = are_good g.pages_used (directory_pages g) (words location.0) numbers.0 location.2;
      read = (scatters file g.page_size numbers.0 g.directory_size).found directory (found_there _ directory numbers.2);
    }

pub only_directory : (file : List ℕ) (head : Head) (directory : List ℕ) → IsDirectory file head directory
    → directory_of file head ≡ Ok directory
unfolding directory_of directory_numbers
only_directory file head directory is =
    let g = head.geometry in
    let located = (scatters file g.page_size head.location (4 * directory_pages g)).only is.location is.located in
    let good = read_good g.pages_used (directory_pages g) (words is.location) is.numbers is.good in
    let read = (scatters file g.page_size is.numbers g.directory_size).only directory is.read in
    rw (located, good, read) refl

-- ---- streams

pub is_stream : (file : List ℕ) (head : Head) (n : ℕ) (limit : Option ℕ) (bytes : List ℕ)
    → stream_of file head n limit ≡ Ok bytes → IsStream file head n limit bytes
unfolding stream_of stream_entry_of
is_stream file head n limit bytes e =
    let g = head.geometry in
    let directory = bind_ok (directory_of file head) _ bytes e in
    let entry = bind_ok (stream_entry_of g n limit directory.0) _ bytes directory.2 in
    let place = bind_ok (stream_place_in g.page_size n directory.0) _ entry.0 entry.1 in
    let numbers = bind_ok (page_numbers g.pages_used (pages g.page_size place.0.size)
    (words (drop place.0.start directory.0))) _ entry.0 place.2 in
    let meant : PagesOfStream = record { size = limit_size place.0.size limit; pages = numbers.0 } in
    let same : meant ≡ entry.0 = ok_is meant entry.0 numbers.2 in
    let at = stands_where g.page_size n directory.0 place.0 place.1 in
    let lies : bytes_or_eof (scatter file g.page_size numbers.0 (limit_size place.0.size limit)) ≡ Ok bytes =
    ap (λ (entry : PagesOfStream). bytes_or_eof (scatter file g.page_size entry.pages entry.size)) same ∙ entry.2 in
    record {
      directory = directory.0;
      has = is_directory file head directory.0 directory.1;
      count = at.count;
      counted = at.counted;
      known = at.known;
      size = place.0.size;
      sized = sym (sizes_follow n (words directory.0)) ∙ at.sized;
      there = at.there;
      start = place.0.start;
      place = at.is;
      reached = at.reached;
      numbers = numbers.0;
      good = are_good g.pages_used (pages g.page_size place.0.size)
          (words (drop place.0.start directory.0)) numbers.0 numbers.1;
      lies = (scatters file g.page_size numbers.0 (limit_size place.0.size limit)).found bytes
          (found_there _ bytes lies);
    }

pub only_stream : (file : List ℕ) (head : Head) (n : ℕ) (limit : Option ℕ) (bytes : List ℕ)
    → IsStream file head n limit bytes → stream_of file head n limit ≡ Ok bytes
unfolding stream_of
only_stream file head n limit bytes is =
    let g = head.geometry in
    let d = is.directory in
    let read = only_directory file head d is.has in
    let sized : HasSize n d is.count is.size =
    record { counted = is.counted; known = is.known; is = sizes_follow n (words d) ∙ is.sized } in
    let stood = stands g.page_size n d is.count is.size sized is.there
    (subst (λ (k : ℕ). k ≤ length d) is.place is.reached) in
    let place : StreamPlace = record { size = is.size; start = is.start } in
    let here : stream_place_in g.page_size n d ≡ Ok place = stood
    ∙ ap (λ (k : ℕ). Ok (let p : StreamPlace = record { size = is.size; start = k } in p)) (sym is.place) in
    let good = read_good g.pages_used (pages g.page_size is.size) (words (drop is.start d)) is.numbers is.good in
    let entry = entry_found g n limit d place is.numbers here good in
    let lies = (scatters file g.page_size is.numbers (limit_size is.size limit)).only bytes is.lies in
    rw (read, entry, lies) refl

-- ---- whatever was asked before

pub later_here : (moment : Moment) → IsLater moment moment
later_here moment = record { source = kept_here moment.state; head = refl }

pub later_then : (before middle after : Moment) → IsLater before middle → IsLater middle after → IsLater before after
later_then before middle after first second =
    record { source = kept_then _ _ _ first.source second.source; head = second.head ∙ first.head }

one_answer : (failed later : Type 0) (once again : Result (List ℕ) Error) (meant : Answer (List ℕ))
    → AnswersUnless failed (λ stream. stream) once meant → AnswersUnless later (λ stream. stream) again meant
    → AgreeUnless failed later once again
one_answer failed later (Ok bytes) (Ok again) meant first second = ok_is again bytes (sym second ∙ first)
one_answer failed later (Ok bytes) (Err e) meant first (inl refused) =
    absurd (ok_is_no_err bytes (refusal_of e) (sym first ∙ refused))
one_answer failed later (Ok bytes) (Err e) meant first (inr outside) = outside
one_answer failed later (Err d) (Ok again) meant (inl refused) second =
    absurd (ok_is_no_err again (refusal_of d) (sym second ∙ refused))
one_answer failed later (Err d) (Ok again) meant (inr outside) second = outside
one_answer failed later (Err d) (Err e) meant (inl refused) (inl again) =
    inl (err_is {A = List ℕ} (refusal_of e) (refusal_of d) (sym again ∙ refused))
one_answer failed later (Err d) (Err e) meant (inl refused) (inr outside) = inr (inr outside)
one_answer failed later (Err d) (Err e) meant (inr outside) second = inr (inl outside)

pub alike : (before after : Moment) (n : ℕ) (limit : Option ℕ) → IsLater before after
    → AnswersAlike before after n limit
alike before after n limit later once_left again_left once again first second =
    let same : stream_of after.state.bytes after.head n limit ≡ stream_of before.state.bytes before.head n limit =
    ap (λ (bytes : List ℕ). stream_of bytes after.head n limit) later.source.bytes
    ∙ ap (λ (head : Head). stream_of before.state.bytes head n limit) later.head in
    one_answer (HasFailed before.state once_left) (HasFailed after.state again_left) once again
    (stream_of before.state.bytes before.head n limit) first
    (subst (λ (meant : Answer (List ℕ)). AnswersUnless (HasFailed after.state again_left)
    (λ stream. stream) again meant) same second)
