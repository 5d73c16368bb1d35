-- What no definition of this crate refuses with: an error of the source, but for its end.
use Rattle.std.proofs.Common.{◌≡◌, ℕ, Bool, true, false, ltb, leb, eqb, ◌&&◌, List, length, drop, ap, inl, inr, subst}
use Rattle.std.proofs.Common.{Option, Some, None, Ok, Err}
use Rattle.std.proofs.lemmas.Bool.{cases_Bool}
use Rattle.std.specs.List.{slice_get}
use Rattle.std.specs.Prelude.{not}
use Rattle.pdb_base.specs.declared.error.Error.{Error}
use Rattle.pdb_base.specs.Refusal.{Refusal, refusal_of, unexpected_eof, page_reference_out_of_range, stream_not_found}
use Rattle.pdb_base.specs.Answer.{Answer, ◌>>=◌, Answers, ok_if}
use Rattle.pdb_msf.specs.declared.header.Geometry.{Geometry}
use Rattle.pdb_msf.specs.declared.directory.StreamPlace.{StreamPlace}
use Rattle.pdb_msf.specs.Source.{State, TellsKind}
use Rattle.pdb_msf.specs.Pages.{pages, present, valid_page, page_numbers, words}
use Rattle.pdb_msf.specs.Directory.{PagesOfStream, absent, stream_entry_of, limit_size, stream_place_in, sizes_of}
use Rattle.pdb_msf.specs.Directory.{start_of}
use Rattle.pdb_msf.proofs.LawLemmas.{first_fault}

-- answers that refuse with no error of a source
pub record Plain {A : Type 0} (answer : Answer A) : Type 0 where
  pub tells : (state : State) (e : Refusal) → answer ≡ Err e → TellsKind state e

pub plain_ok : {A : Type 0} (x : A) → Plain (let r : Answer A = Ok x in r)
plain_ok x = record { tells = λ state e is. absurd cc }

pub plain_err : {A : Type 0} (r : Refusal) → ((state : State) → TellsKind state r)
    → Plain (let a : Answer A = Err r in a)
plain_err {A} r told = record {
  tells = λ state e is. let same : r ≡ e = cc in
      subst (TellsKind state) same (told state);
}

pub plain_then : {A B : Type 0} (first : Answer A) (more : A → Answer B) → Plain first → ((x : A) → Plain (more x))
    → Plain (first >>= more)
plain_then (Ok x) more one two = two x
plain_then (Err r) more one two = record {
  tells =
      λ state e is. one.tells state e (let same : r ≡ e = cc in ap (λ (d : Refusal). Err d) same);
}

pub plain_required : (b : Bool) (r : Refusal) → ((state : State) → TellsKind state r) → Plain (ok_if b r)
plain_required true r told = plain_ok tt
plain_required false r told = plain_err r told

plain_present : (o : Option ℕ) → Plain (present o)
plain_present None = plain_err unexpected_eof (λ state. tt)
plain_present (Some word) = plain_ok word

plain_judged : (pages_used word : ℕ) → Plain (valid_page pages_used word)
plain_judged pages_used word = elim (cases_Bool (ltb 0 word && leb word pages_used)) [
  | inl good ↦ rw good (plain_ok word)
  | inr bad ↦ rw bad (plain_err (page_reference_out_of_range word) (λ state. tt))
]

pub plain_numbers : (pages_used count : ℕ) (words : List ℕ) → Plain (page_numbers pages_used count words)
plain_numbers pages_used count words = record {
  tells = λ state e is.
      let first = first_fault pages_used count words e is in
      (plain_then (present (slice_get words first.place)) (valid_page pages_used)
      (plain_present (slice_get words first.place)) (plain_judged pages_used)).tells state e first.here;
}

plain_place : (page_size n : ℕ) (d : List ℕ) → Plain (stream_place_in page_size n d)
unfolding stream_place_in
plain_place page_size n d =
    plain_then _ _ (plain_present (slice_get (words d) 0)) (λ count.
    plain_then _ _ (plain_required _ (stream_not_found n) (λ state. tt)) (λ known.
    plain_then _ _ (plain_present (slice_get (sizes_of d) n)) (λ size.
    plain_then _ _ (plain_required (not (eqb size absent)) (stream_not_found n) (λ state. tt)) (λ there.
    plain_then _ _ (plain_required (leb (start_of page_size count d n) (length d)) unexpected_eof (λ state. tt))
    (λ reached.
    let place : StreamPlace = record { size = size; start = start_of page_size count d n } in plain_ok place)))))

pub plain_entry : (g : Geometry) (n : ℕ) (limit : Option ℕ) (d : List ℕ) → Plain (stream_entry_of g n limit d)
unfolding stream_entry_of
plain_entry g n limit d =
    plain_then _ _ (plain_place g.page_size n d) (λ place.
    plain_then _ _ (plain_numbers g.pages_used (pages g.page_size place.size) (words (drop place.start d))) (λ numbers.
    let entry : PagesOfStream = record { size = limit_size place.size limit; pages = numbers } in plain_ok entry))

-- so a call that reads no source passes no error of one on
tells_answers : {X A : Type 0} (state : State) (view : X → A) (e : Error) (meant : Answer A) → Plain meant
    → Answers view (Err e) meant → TellsKind state (refusal_of e)
tells_answers state view e meant plain (inl is) = plain.tells state (refusal_of e) is
tells_answers state view e meant plain (inr want) = rw want tt

pub tells_numbers : {X : Type 0} (state : State) (view : X → List ℕ) (e : Error) (pages_used count : ℕ) (words : List ℕ)
    → Answers view (Err e) (page_numbers pages_used count words) → TellsKind state (refusal_of e)
tells_numbers state view e pages_used count words answered =
    tells_answers state view e (page_numbers pages_used count words) (plain_numbers pages_used count words) answered

pub tells_entry : {X : Type 0} (state : State) (view : X → PagesOfStream) (e : Error) (g : Geometry) (n : ℕ)
    (limit : Option ℕ)
    (d : List ℕ)
    → Answers view (Err e) (stream_entry_of g n limit d) → TellsKind state (refusal_of e)
tells_entry state view e g n limit d answered =
    tells_answers state view e (stream_entry_of g n limit d) (plain_entry g n limit d) answered

pub tells_place : (state : State) (e : Error) (page_size n : ℕ) (d : List ℕ)
    → stream_place_in page_size n d ≡ Err (refusal_of e) → TellsKind state (refusal_of e)
tells_place state e page_size n d is = (plain_place page_size n d).tells state (refusal_of e) is
