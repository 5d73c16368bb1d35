-- The names of a string table.
use Rattle.std.proofs.Common.{◌≡◌, inl, inr, ℕ, zero, suc, ◌+◌, ◌-◌, ◌<◌, ◌≤◌, ◌==◌, List, [], ◌∷◌, length, drop, refl}
use Rattle.std.proofs.Common.{sym, ap, ◌∙◌, arith, Ok, Err}
use Rattle.std.specs.Prelude.{IsOk}
use Rattle.std.proofs.lemmas.Bool.{cases_Bool, false≢true}
use Rattle.std.proofs.lemmas.List.{drop-drop}
use Rattle.pdb_base.specs.Answer.{Answer, ◌>>=◌}
use Rattle.pdb_base.specs.Reading.{text_at, word_at}
use Rattle.pdb_space.specs.StringTable.{name_of, names_of}
use Rattle.pdb_space.proofs.StringTableLemmas.{finds_names}
use Rattle.pdb_validation.specs.IsWhole.{HasWholeNames}
use Rattle.pdb_validation.specs.Names.{last_name, whole_names}

pub names_sized : (stream names : List ℕ) (size : ℕ) → names_of stream ≡ Ok names
    → (12 ≤ length stream → size ≡ word_at 8 stream) → length names ≡ size
names_sized stream names size is says =
    let holds = (finds_names stream).found names is in
    sym holds.size ∙ sym (says (omega (arith, holds.fits)))

ok_more : {A B : Type 0} (answer : Answer A) (f : A → B) → IsOk answer
    → IsOk (answer >>= λ x. let r : Answer B = Ok (f x) in r)
ok_more (Ok x) f is = refl
ok_more (Err refusal) f is = absurd (false≢true is)

more_ok : {A B : Type 0} (answer : Answer A) (f : A → B) → IsOk (answer >>= λ x. let r : Answer B = Ok (f x) in r)
    → IsOk answer
more_ok (Ok x) f is = refl
more_ok (Err refusal) f is = absurd (false≢true is)

text_behind : (byte : ℕ) (bytes : List ℕ) → IsOk (text_at bytes) → IsOk (text_at (byte ∷ bytes))
text_behind byte bytes is = elim (cases_Bool (byte == 0)) [
  | inl nul ↦ rw nul refl
  | inr other ↦ rw other (ok_more (text_at bytes) (λ text. (byte ∷ text.0, text.1)) is)
]

-- a text that is found further on is found from before it too
text_before : (n : ℕ) (bytes : List ℕ) → IsOk (text_at (drop n bytes)) → IsOk (text_at bytes)
text_before zero bytes is = is
text_before (suc n) [] is = is
text_before (suc n) (byte ∷ bytes) is = text_behind byte bytes (text_before n bytes is)

text_of_name : (names : List ℕ) (offset : ℕ) → IsOk (name_of names offset) → IsOk (text_at (drop offset names))
unfolding name_of
text_of_name names offset is = more_ok (text_at (drop offset names)) (λ text. text.0) is

name_of_text : (names : List ℕ) (offset : ℕ) → IsOk (text_at (drop offset names)) → IsOk (name_of names offset)
unfolding name_of
name_of_text names offset is = ok_more (text_at (drop offset names)) (λ text. text.0) is

name_before : (names : List ℕ) (offset last : ℕ) → offset ≤ last → IsOk (name_of names last)
    → IsOk (name_of names offset)
name_before names offset last up is =
    let there : IsOk (text_at (drop last names)) = text_of_name names last is in
    let place : offset + (last - offset) ≡ last = omega (arith, up) in
    let same : drop (last - offset) (drop offset names) ≡ drop last names =
    drop-drop (last - offset) offset names ∙ ap (λ (n : ℕ). drop n names) place in
    name_of_text names offset (text_before (last - offset) (drop offset names) (rw same there))

abbrev nothing : List ℕ → Unit {0}
nothing name = tt

-- there is a name at each byte exactly if there is one at the last
names_all : (names : List ℕ) → IsOk (last_name names) → (offset : ℕ) → offset < length names
    → IsOk (name_of names offset)
names_all [] is offset below = absurd (omega (arith, below))
names_all (byte ∷ names) is offset below =
    name_before (byte ∷ names) offset (length names) (omega (arith, below))
    (more_ok (name_of (byte ∷ names) (length names)) nothing is)

all_names : (names : List ℕ) → ((offset : ℕ) → offset < length names → IsOk (name_of names offset))
    → IsOk (last_name names)
all_names [] each = refl
all_names (byte ∷ names) each = ok_more (name_of (byte ∷ names) (length names)) nothing
    (each (length names) (omega arith))

held_all : (answer : Answer (List ℕ)) → IsOk (answer >>= last_name) → HasWholeNames answer
held_all (Ok names) is = names_all names is
held_all (Err refusal) is = absurd (false≢true is)

all_held : (answer : Answer (List ℕ)) → HasWholeNames answer → IsOk (answer >>= last_name)
all_held (Ok names) each = all_names names each
all_held (Err refusal) each = absurd each

pub names_whole : (stream : List ℕ) → IsOk (whole_names stream) → HasWholeNames (names_of stream)
unfolding whole_names
names_whole stream is = held_all (names_of stream) is

pub whole_from_names : (stream : List ℕ) → HasWholeNames (names_of stream) → IsOk (whole_names stream)
unfolding whole_names
whole_from_names stream each = all_held (names_of stream) each
