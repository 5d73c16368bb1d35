-- Items that are shown one after another.
use Rattle.std.proofs.Common.{◌≡◌, ℕ, ◌+◌, ◌<◌, cond, List, [], ◌∷◌, ◌++◌, length, take}
use Rattle.std.proofs.Common.{get_or, sym, ap, ◌∙◌, append_assoc}
use Rattle.std.specs.List.{flat_map}
use Rattle.std.proofs.lemmas.Grind.{flat_map-append}
use Rattle.std.proofs.lemmas.List.{append-nil, take_more}
use Rattle.pdbdump_rows.specs.Lines.{is_none, separate}

-- one item more
pub one_more : {A : Type 0} (text : A → List ℕ) (items : List A) (i : ℕ) (d : A) → i < length items
    → flat_map text (take (i + 1) items) ≡ flat_map text (take i items) ++ text (get_or items i d)
one_more text items i d within =
    ap (flat_map text) (take_more items i d within)
    ∙ flat_map-append text (take i items) (get_or items i d ∷ [])
    ∙ ap (λ (last : List ℕ). flat_map text (take i items) ++ last) (append-nil (text (get_or items i d)))

-- the separator before an item, unless it is the first
abbrev pub before : {A : Type 0} → List ℕ → List A → List ℕ
before separator items = cond (is_none items) [] separator

-- one item more behind those that are separated
pub separated_more : {A : Type 0} (separator : List ℕ) (text : A → List ℕ) (items : List A) (item : A)
    → separate separator text (items ++ item ∷ []) ≡ separate separator text items
    ++ (before separator items ++ text item)
separated_more separator text [] item = append-nil (text item)
separated_more separator text (first ∷ items) item =
    ap (λ (rest : List ℕ). text first ++ rest)
    (flat_map-append (λ next. separator ++ text next) items (item ∷ [])
    ∙ ap (λ (last : List ℕ). flat_map (λ next. separator ++ text next) items ++ last)
    (append-nil (separator ++ text item)))
    ∙ sym (append_assoc (text first) (flat_map (λ next. separator ++ text next) items) (separator ++ text item))
