-- Records in order.
use Rattle.std.proofs.Common.{◌≡◌, ℕ, zero, suc, ◌<◌, ◌≤◌, Bool, true, false, ◌&&◌, leb, List, [], ◌∷◌, length, get_or}
use Rattle.std.proofs.Common.{refl, sym, ap, ◌∙◌, arith}
use Rattle.std.proofs.lemmas.Bool.{false≢true, and_from, and_parts, le-leb, leb-true, lt-leb}
use Rattle.pdb_space.specs.Omap.{OmapValue, IsSortedBySource}
use Rattle.pdb_space.specs.Ranges.{next_source}
use Rattle.pdb_space.proofs.RangeLemmas.{sorted-rest}

-- ---- in order

-- no source is below that of the record before, the first none below a number
abbrev pub rises : ℕ → List OmapValue → Bool
rises highest [] = true
rises highest (mapping ∷ table) = leb highest mapping.source && rises mapping.source table

rises-least : (highest : ℕ) (table : List OmapValue) (j : ℕ) (d : OmapValue) → rises highest table ≡ true
    → j < length table → highest ≤ (get_or table j d).source
rises-least highest [] j d rising within = absurd (omega arith)
rises-least highest (mapping ∷ table) zero d rising within =
    leb-true highest mapping.source (and_parts (leb highest mapping.source) (rises mapping.source table) rising).0
rises-least highest (mapping ∷ table) (suc j) d rising within =
    let both = and_parts (leb highest mapping.source) (rises mapping.source table) rising in
    let first = leb-true highest mapping.source both.0 in
    let behind = rises-least mapping.source table j d both.1 (omega arith) in
    omega (arith, first, behind)

sorted-from_rises : (highest : ℕ) (table : List OmapValue) → rises highest table ≡ true → IsSortedBySource table
sorted-from_rises highest [] rising i j d up within = absurd (omega arith)
sorted-from_rises highest (mapping ∷ table) rising zero zero d up within = omega arith
sorted-from_rises highest (mapping ∷ table) rising zero (suc j) d up within =
    rises-least mapping.source table j d (and_parts (leb highest mapping.source) (rises mapping.source table) rising).1
    (omega arith)
sorted-from_rises highest (mapping ∷ table) rising (suc i) zero d up within = absurd (omega arith)
sorted-from_rises highest (mapping ∷ table) rising (suc i) (suc j) d up within =
    sorted-from_rises mapping.source table (and_parts (leb highest mapping.source)
    (rises mapping.source table) rising).1 i j d (omega arith) (omega arith)

rises-from_sorted : (highest : ℕ) (table : List OmapValue) → IsSortedBySource table
    → highest ≤ next_source table highest → rises highest table ≡ true
rises-from_sorted highest [] sorted first = refl
rises-from_sorted highest (mapping ∷ []) sorted first =
    and_from (leb highest mapping.source) true (le-leb highest mapping.source first) refl
rises-from_sorted highest (mapping ∷ next ∷ table) sorted first =
    and_from (leb highest mapping.source) (rises mapping.source (next ∷ table)) (le-leb highest mapping.source first)
    (rises-from_sorted mapping.source (next ∷ table) (sorted-rest mapping (next ∷ table) sorted)
    (sorted 0 1 mapping (omega arith) (omega arith)))

-- at the end of records that rise the table is in order
pub sorted-at_end : (highest : ℕ) (left table : List OmapValue) → rises highest left ≡ rises 0 table → left ≡ []
    → IsSortedBySource table
sorted-at_end highest left table rising none = sorted-from_rises 0 table (sym rising ∙ ap (rises highest) none)

-- where a record falls it is not
pub falls : (highest : ℕ) (left rest table : List OmapValue) (here : OmapValue) → rises highest left ≡ rises 0 table
    → left ≡ here ∷ rest → here.source < highest → IsSortedBySource table → ⊥
falls highest left rest table here rising next below sorted =
    let falling : rises highest (here ∷ rest) ≡ false =
    ap (λ (b : Bool). b && rises here.source rest) (lt-leb highest here.source below) in
    false≢true (sym falling ∙ ap (rises highest) (sym next) ∙ rising ∙ rises-from_sorted 0 table sorted (omega arith))
