-- Reading numbers from bytes, and the words that bytes spell.
use Rattle.std.proofs.Common.{◌≡◌, ℕ, zero, suc, ◌+◌, ◌*◌, ◌<◌, ◌≤◌, List, [], ◌∷◌, length, take, drop, refl, sym, ap}
use Rattle.std.proofs.Common.{◌∙◌, arith, Option, Some, None, Ok, Err}
use Rattle.std.specs.List.{slice_get, sum_by}
use Rattle.std.proofs.lemmas.List.{drop-drop}
use Rattle.std.proofs.lemmas.Option.{slice_get_within, get_or_from_slice_get}
use Rattle.std.proofs.lemmas.List.Sums.{sum_by_more}
use Rattle.pdb_base.specs.Endian.{little_number}
use Rattle.pdb_base.specs.Refusal.{Refusal, unexpected_eof}
use Rattle.pdb_base.proofs.lemmas.Collected.{ok_is, ok_is_no_err}
use Rattle.pdb_base.specs.Reading.{front_at, number_at}
use Rattle.pdb_base.proofs.lemmas.Reading.{number_whole}
use Rattle.pdb_msf.specs.Pages.{present, words}

-- ---- one word

word_whole : (a b c d : ℕ) (rest : List ℕ)
    → number_at 4 (a ∷ b ∷ c ∷ d ∷ rest) ≡ Ok (little_number 4 (a ∷ b ∷ c ∷ d ∷ []), rest)
word_whole a b c d rest = number_whole 4 (a ∷ b ∷ c ∷ d ∷ rest) (omega arith)

-- a number of four bytes that stands at the front is the first word, and the others follow
pub word_read : (bytes : List ℕ) (x : ℕ × List ℕ) → number_at 4 bytes ≡ Ok x → words bytes ≡ x.0 ∷ words x.1
unfolding number_at front_at
word_read [] x e = absurd cc
word_read (a ∷ []) x e = absurd cc
word_read (a ∷ b ∷ []) x e = absurd cc
word_read (a ∷ b ∷ c ∷ []) x e = absurd cc
word_read (a ∷ b ∷ c ∷ d ∷ rest) x e =
    ap (λ (p : ℕ × List ℕ). p.0 ∷ words p.1) (ok_is (little_number 4 (a ∷ b ∷ c ∷ d ∷ []), rest) x
    (sym (word_whole a b c d rest) ∙ e))

-- where none stands there are no words
pub word_missing : (bytes : List ℕ) (e : Refusal) → number_at 4 bytes ≡ Err e → (words bytes ≡ [])
    × (e ≡ unexpected_eof)
unfolding number_at front_at
word_missing [] e h = (refl, cc)
word_missing (a ∷ []) e h = (refl, cc)
word_missing (a ∷ b ∷ []) e h = (refl, cc)
word_missing (a ∷ b ∷ c ∷ []) e h = (refl, cc)
word_missing (a ∷ b ∷ c ∷ d ∷ rest) e h =
    absurd (ok_is_no_err (little_number 4 (a ∷ b ∷ c ∷ d ∷ []), rest) e (sym (word_whole a b c d rest) ∙ h))

-- ---- many words

pub words-drop_one : (bytes : List ℕ) → words (drop 4 bytes) ≡ drop 1 (words bytes)
words-drop_one [] = refl
words-drop_one (a ∷ []) = refl
words-drop_one (a ∷ b ∷ []) = refl
words-drop_one (a ∷ b ∷ c ∷ []) = refl
words-drop_one (a ∷ b ∷ c ∷ d ∷ rest) = refl

-- without so many words of bytes, so many words fewer
pub words-drop : (count : ℕ) (bytes : List ℕ) → words (drop (4 * count) bytes) ≡ drop count (words bytes)
words-drop zero bytes = refl
words-drop (suc count) bytes =
    let more : 4 * suc count ≡ 4 + 4 * count = omega arith in
    let one : 1 + count ≡ suc count = omega arith in
    ap (λ (n : ℕ). words (drop n bytes)) more
    ∙ ap words (sym (drop-drop (4 * count) 4 bytes))
    ∙ words-drop count (drop 4 bytes)
    ∙ ap (drop count) (words-drop_one bytes)
    ∙ drop-drop count 1 (words bytes)
    ∙ ap (λ (n : ℕ). drop n (words bytes)) one

-- bytes have as many words as they have whole fours
pub length-words : (bytes : List ℕ) → (4 * length (words bytes) ≤ length bytes)
    × (length bytes < 4 * length (words bytes) + 4)
length-words [] = (omega arith, omega arith)
length-words (a ∷ []) = (omega arith, omega arith)
length-words (a ∷ b ∷ []) = (omega arith, omega arith)
length-words (a ∷ b ∷ c ∷ []) = (omega arith, omega arith)
length-words (a ∷ b ∷ c ∷ d ∷ rest) = let more = length-words rest in (omega (arith, more.0), omega (arith, more.1))

-- ---- in turn

pub slice_get-drop : {X : Type 0} (i : ℕ) (xs : List X) → slice_get (drop i xs) 0 ≡ slice_get xs i
slice_get-drop zero xs = refl
slice_get-drop (suc i) [] = refl
slice_get-drop (suc i) (x ∷ xs) = slice_get-drop i xs

-- the word in place i of all is the next one after i words
pub next_word : (all : List ℕ) (i : ℕ) (bytes : List ℕ) (x : ℕ × List ℕ) → words bytes ≡ drop i all
    → number_at 4 bytes ≡ Ok x → (slice_get all i ≡ Some x.0) × (words x.1 ≡ drop (i + 1) all)
next_word all i bytes x here e =
    let is : x.0 ∷ words x.1 ≡ drop i all = sym (word_read bytes x e) ∙ here in
    (sym (slice_get-drop i all) ∙ ap (λ (ws : List ℕ). slice_get ws 0) (sym is), ap (drop 1) is ∙ drop-drop 1 i all)

pub no_word : (all : List ℕ) (i : ℕ) (bytes : List ℕ) (e : Refusal) → words bytes ≡ drop i all
    → number_at 4 bytes ≡ Err e → (slice_get all i ≡ None) × (e ≡ unexpected_eof)
no_word all i bytes e here h =
    let missing = word_missing bytes e h in
    (sym (slice_get-drop i all) ∙ ap (λ (ws : List ℕ). slice_get ws 0) (sym here ∙ missing.0), missing.1)

pub word_there : (o : Option ℕ) (word : ℕ) → present o ≡ Ok word → o ≡ Some word
word_there None word e = absurd cc
word_there (Some there) word e = ap (λ (n : ℕ). Some n) (ok_is there word e)

pub word_past : (all : List ℕ) (i : ℕ) → slice_get all i ≡ None → length all ≤ i
word_past [] i is = omega arith
word_past (word ∷ all) zero is = absurd cc
word_past (word ∷ all) (suc i) is = let rest = word_past all i is in omega arith

-- a sum over one word more
pub total_more : (f : ℕ → ℕ) (all : List ℕ) (i word : ℕ) → slice_get all i ≡ Some word
    → sum_by f (take (i + 1) all) ≡ sum_by f (take i all) + f word
total_more f all i word is =
    sum_by_more f all i 0 (slice_get_within all i word is)
    ∙ ap (λ (w : ℕ). sum_by f (take i all) + f w) (get_or_from_slice_get all i word 0 is)
