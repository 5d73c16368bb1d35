-- Words of flags, one after another.
use Rattle.std.proofs.Common.{◌≡◌, ℕ, ◌+◌, ◌<◌, Bool, true, false, cond, codes, List, [], ◌∷◌, ◌++◌, length, take, map}
use Rattle.std.proofs.Common.{get_or, zero, suc, refl, sym, ap, ◌∙◌, arith, append_assoc, Bor}
use Rattle.std.proofs.lemmas.Bool.{false≢true}
use Rattle.std.proofs.lemmas.List.{append-nil, map-append, take_more}
use Rattle.pdbdump_rows.specs.Lines.{is_none, separate}
use Rattle.pdbdump_rows.proofs.Separated.{before, separated_more}
use Rattle.pdbdump_rows.specs.Row.{words_beside_true}

-- a flag and its word, as the code has them
abbrev pub Flag : Type 0
Flag = Bool × Bor (List ℕ)

-- and as they are told
abbrev pub told : Flag → Bool × List ℕ
told flag = (flag.0, flag.1.now)

-- one flag more
chosen_last : (flags : List (Bool × List ℕ)) (set : Bool) (word : List ℕ)
    → words_beside_true (flags ++ (set, word) ∷ []) ≡ words_beside_true flags ++ cond set (word ∷ []) []
unfolding words_beside_true
chosen_last [] true word = refl
chosen_last [] false word = refl
chosen_last ((true, first) ∷ flags) set word = ap (λ (rest : List (List ℕ)). first ∷ rest) (chosen_last flags set word)
chosen_last ((false, first) ∷ flags) set word = chosen_last flags set word

pub chosen_more : (flags : List Flag) (i : ℕ) (d : Flag) → i < length flags
    → words_beside_true (map told (take (i + 1) flags)) ≡ words_beside_true (map told (take i flags))
    ++ cond (get_or flags i d).0 ((get_or flags i d).1.now ∷ []) []
chosen_more flags i d within =
    ap (λ (front : List Flag). words_beside_true (map told front)) (take_more flags i d within)
    ∙ ap words_beside_true (map-append told (take i flags) (get_or flags i d ∷ []))
    ∙ chosen_last (map told (take i flags)) (get_or flags i d).0 (get_or flags i d).1.now

-- without flags there are no words
pub none_chosen : words_beside_true [] ≡ []
unfolding words_beside_true
none_chosen = refl

-- whether a list with an item at its end is empty
some_last : {A : Type 0} (items : List A) (item : A) → is_none (items ++ item ∷ []) ≡ false
some_last [] item = refl
some_last (first ∷ items) item = refl

-- a flag that is set adds its word, behind a comma unless it is the first
words_more : (text : List ℕ → List ℕ) (flags : List Flag) (i : ℕ) (d : Flag) → i < length flags
    → (get_or flags i d).0 ≡ true
    → (separate (codes ",") text (words_beside_true (map told (take (i + 1) flags)))
    ≡ separate (codes ",") text (words_beside_true (map told (take i flags)))
    ++ (before (codes ",") (words_beside_true (map told (take i flags))) ++ text (get_or flags i d).1.now))
    × (is_none (words_beside_true (map told (take (i + 1) flags))) ≡ false)
words_more text flags i d within is_set =
    let more : words_beside_true (map told (take (i + 1) flags))
    ≡ words_beside_true (map told (take i flags)) ++ (get_or flags i d).1.now ∷ [] =
    chosen_more flags i d within ∙ ap (λ (set : Bool). words_beside_true (map told (take i flags))
    ++ cond set ((get_or flags i d).1.now ∷ []) []) is_set in (
      ap (separate (codes ",") text) more
          ∙ separated_more (codes ",") text (words_beside_true (map told (take i flags))) (get_or flags i d).1.now,
      ap is_none more ∙ some_last (words_beside_true (map told (take i flags))) (get_or flags i d).1.now,
    )

-- a flag that is not set adds nothing
words_same : (flags : List Flag) (i : ℕ) (d : Flag) → i < length flags → (get_or flags i d).0 ≡ false
    → words_beside_true (map told (take (i + 1) flags)) ≡ words_beside_true (map told (take i flags))
words_same flags i d within is_not =
    chosen_more flags i d within ∙ ap (λ (set : Bool). words_beside_true (map told (take i flags))
    ++ cond set ((get_or flags i d).1.now ∷ []) []) is_not ∙ append-nil (words_beside_true (map told (take i flags)))

-- where a flag is set there are words
pub any_chosen : (flags : List Flag) (i : ℕ) (d : Flag) → i < length flags → (get_or flags i d).0 ≡ true
    → is_none (words_beside_true (map told flags)) ≡ false
unfolding words_beside_true
any_chosen [] i d within is_set = absurd (omega (arith, within))
any_chosen ((true, word) ∷ flags) i d within is_set = refl
any_chosen ((false, word) ∷ flags) zero d within is_set = absurd (false≢true is_set)
any_chosen ((false, word) ∷ flags) (suc i) d within is_set = any_chosen flags i d (omega (arith, within)) is_set

-- the words of the flags before a place
abbrev words_to : List Flag → ℕ → List (List ℕ)
words_to flags i = words_beside_true (map told (take i flags))

-- what is written after one flag more: its word, if it is set
pub word_added : (text : List ℕ → List ℕ) (flags : List Flag) (i : ℕ) (d : Flag) (first next : Bool)
    (start old new : List ℕ) → i < length flags → (get_or flags i d).0 ≡ true → first ≡ is_none (words_to flags i)
    → old ≡ start ++ separate (codes ",") text (words_to flags i) → next ≡ false
    → new ≡ old ++ (cond first [] (codes ",") ++ text (get_or flags i d).1.now)
    → (next ≡ is_none (words_to flags (i + 1)))
    × (new ≡ start ++ separate (codes ",") text (words_to flags (i + 1)))
word_added text flags i d first next start old new within is_set none so_far is add =
    let more = words_more text flags i d within is_set in
    let word = text (get_or flags i d).1.now in (
      is ∙ sym more.1,
      add ∙ ap (λ (b : Bool). old ++ (cond b [] (codes ",") ++ word)) none
          ∙ ap (λ (front : List ℕ). front ++ (before (codes ",") (words_to flags i) ++ word)) so_far
          ∙ append_assoc start (separate (codes ",") text (words_to flags i))
          (before (codes ",") (words_to flags i) ++ word)
          ∙ ap (λ (all : List ℕ). start ++ all) (sym more.0),
    )

pub word_kept : (text : List ℕ → List ℕ) (flags : List Flag) (i : ℕ) (d : Flag) (first next : Bool)
    (start old new : List ℕ) → i < length flags → (get_or flags i d).0 ≡ false → first ≡ is_none (words_to flags i)
    → old ≡ start ++ separate (codes ",") text (words_to flags i) → next ≡ first → new ≡ old
    → (next ≡ is_none (words_to flags (i + 1)))
    × (new ≡ start ++ separate (codes ",") text (words_to flags (i + 1)))
word_kept text flags i d first next start old new within is_not none so_far is add =
    let same = words_same flags i d within is_not in (
      is ∙ none ∙ ap is_none (sym same),
      add ∙ so_far ∙ ap (λ (words : List (List ℕ)). start ++ separate (codes ",") text words) (sym same),
    )
