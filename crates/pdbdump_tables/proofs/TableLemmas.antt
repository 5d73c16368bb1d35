-- The rows of tables, of which the first is written first.
use Rattle.std.proofs.Common.{◌≡◌, ℕ, ◌+◌, ◌-◌, ◌<◌, ◌≤◌, ◌/◌, ◌%◌, ◌==◌, zero, suc, true, false, eq-eqb, List, []}
use Rattle.std.proofs.Common.{◌∷◌, length, drop, Option, Some, None, Result, Ok, Err, refl, sym, ap, ◌∙◌, arith}
use Rattle.std.proofs.lemmas.Bool.{ne_eqb}
use Rattle.std.specs.List.{slice_get}
use Rattle.std.specs.Option.{option_map_or}
use Rattle.pdb_base.specs.Answer.{ok_if}
use Rattle.pdb_base.specs.Refusal.{Refusal, unexpected_eof}
use Rattle.pdb_space.specs.Omap.{OmapValue}
use Rattle.pdb_space.specs.StringTable.{name_of}
use Rattle.pdb_frames.specs.declared.frame_data.FrameData.{FrameData}
use Rattle.pdbdump_rows.specs.Line.{moved_from, numbered}
use Rattle.pdbdump_rows.specs.Row.{ShownRow}
use Rattle.pdbdump_rows.specs.Rows.{rows_from}
use Rattle.pdbdump_tables.specs.Tables.{frame_rows, name_rows, placed_at, names_from, next_place, omap_rows}

-- the row of a first record stands before those of the others
pub omap_next : (records : List OmapValue) (mapping : OmapValue) (others : List OmapValue)
    → records ≡ mapping ∷ others → omap_rows records ≡ moved_from mapping.source ∷ omap_rows others
omap_next records mapping others first = rw first refl

pub frame_next : (frames : List FrameData) (frame : FrameData) (others : List FrameData) → frames ≡ frame ∷ others
    → frame_rows frames ≡ [] ∷ frame_rows others
frame_next frames frame others first = rw first refl

-- what the rows of so many section headers begin with, behind those of the first `place`
abbrev pub sections_left : ℕ → ℕ → List ShownRow
sections_left size place = rows_from numbered (place + 1) (size / 40 - place)

pub section_first : (size : ℕ) → sections_left size 0 ≡ rows_from numbered 1 (size / 40)
section_first size = ap (rows_from numbered 1) (omega arith)

pub section_next : (size place : ℕ) → place < size / 40
    → sections_left size place ≡ numbered (place + 1) ∷ sections_left size (place + 1)
section_next size place within =
    let more : size / 40 - place ≡ suc (size / 40 - (place + 1)) = omega (arith, within) in
    rw more refl

pub section_none : (size place : ℕ) → size / 40 ≤ place → sections_left size place ≡ []
section_none size place over =
    let none : size / 40 - place ≡ 0 = omega (arith, over) in
    rw none refl

abbrev given : {A E : Type 0} → Option A → Result (Option A) E
given item = Ok item

some_is : {A E : Type 0} {x y : A} → given {E = E} (Some x) ≡ given (Some y) → x ≡ y
some_is e = cc

none_is_not : {A E : Type 0} {x : A} → given {E = E} (Some x) ≡ given None → ⊥
none_is_not e = cc

-- a step that gives the first of a list leaves the others
pub given_first : {A E : Type 0} (all rest : List A) (x : A) → given {E = E} (Some x) ≡ given (slice_get all 0)
    → rest ≡ drop 1 all → all ≡ x ∷ rest
given_first [] rest x first others = absurd (none_is_not first)
given_first {A} (y ∷ ys) rest x first others =
    let same : y ≡ x = sym (some_is first) in
    rw (same, others) refl

-- whether headers end well
pub whole_end : (stream : List ℕ) {size : ℕ} → length stream ≡ size → size % 40 ≡ 0
    → ok_if (length stream % 40 == 0) unexpected_eof ≡ Ok tt
whole_end stream {size} is whole =
    let test : (length stream % 40 == 0) ≡ true = eq-eqb (length stream % 40) 0 (ap (λ (n : ℕ). n % 40) is ∙ whole) in
    rw test refl

pub cut_end : (stream : List ℕ) {size : ℕ} → length stream ≡ size → (size % 40 ≡ 0 → ⊥)
    → ok_if (length stream % 40 == 0) unexpected_eof ≡ Err unexpected_eof
cut_end stream {size} is cut =
    let test : (length stream % 40 == 0) ≡ false =
    ne_eqb (length stream % 40) 0 (λ whole. cut (sym (ap (λ (n : ℕ). n % 40) is) ∙ whole)) in
    rw test refl

-- ---- the names of a string table

-- a name that is read is the first, and the others follow at the next place
names_next : (most : ℕ) (names : List ℕ) (place : ℕ) (name : List ℕ) (next : ℕ) → name_of names place ≡ Ok name
    → next_place place (length name) ≡ Some next
    → names_from (suc most) names place ≡ (place, name) ∷ names_from most names next
unfolding names_from
names_next most names place name next read more = rw (read, more) refl

names_last : (most : ℕ) (names : List ℕ) (place : ℕ) (name : List ℕ) → name_of names place ≡ Ok name
    → next_place place (length name) ≡ None
    → names_from (suc most) names place ≡ (place, name) ∷ []
unfolding names_from
names_last most names place name read more = rw (read, more) refl

names_none : (most : ℕ) (names : List ℕ) (place : ℕ) (e : Refusal) → name_of names place ≡ Err e
    → names_from most names place ≡ []
unfolding names_from
names_none zero names place e refused = refl
names_none (suc most) names place e refused = rw refused refl

names_end : (names : List ℕ) (place : ℕ) → names_from 0 names place ≡ []
unfolding names_from
names_end names place = refl

-- the names behind one of this place
abbrev names_behind : ℕ → List ℕ → ℕ → List ℕ → List (ℕ × List ℕ)
names_behind most names place name = option_map_or (λ next. names_from most names next)
    (next_place place (length name)) []

names_first : (most : ℕ) (names : List ℕ) (place : ℕ) (name : List ℕ) → name_of names place ≡ Ok name
    → names_from (suc most) names place ≡ (place, name) ∷ names_behind most names place name
unfolding names_from
names_first most names place name read = rw read refl

-- the row of a name that is read stands first
pub name_first : (all at : ℕ) (names : List ℕ) (place : ℕ) (name : List ℕ) → at < all → name_of names place ≡ Ok name
    → name_rows (names_from (all - at) names place)
    ≡ placed_at place ∷ name_rows (names_behind (all - (at + 1)) names place name)
name_first all at names place name within read =
    let left : all - at ≡ suc (all - (at + 1)) = omega (arith, within) in
    rw (left, names_first (all - (at + 1)) names place name read) refl

-- the row of a name that is read stands before those of the others
pub name_step : (all at : ℕ) (names : List ℕ) (place : ℕ) (name : List ℕ) (next : ℕ) → at < all
    → name_of names place ≡ Ok name → Some next ≡ next_place place (length name)
    → name_rows (names_from (all - at) names place)
    ≡ placed_at place ∷ name_rows (names_from (all - (at + 1)) names next)
name_step all at names place name next within read more =
    let left : all - at ≡ suc (all - (at + 1)) = omega (arith, within) in
    rw (left, names_next (all - (at + 1)) names place name next read (sym more)) refl

pub name_end : (all at : ℕ) (names : List ℕ) (place : ℕ) (name : List ℕ) → at < all → name_of names place ≡ Ok name
    → None ≡ next_place place (length name) → name_rows (names_from (all - at) names place) ≡ placed_at place ∷ []
name_end all at names place name within read more =
    let left : all - at ≡ suc (all - (at + 1)) = omega (arith, within) in
    rw (left, names_last (all - (at + 1)) names place name read (sym more)) refl

-- no row is left where no name stands, or where as many as there may be are written
pub name_none : (most : ℕ) (names : List ℕ) (place : ℕ) (e : Refusal) → name_of names place ≡ Err e
    → name_rows (names_from most names place) ≡ []
name_none most names place e refused = ap name_rows (names_none most names place e refused)

pub name_most : (all at : ℕ) (names : List ℕ) (place : ℕ) → all ≤ at
    → name_rows (names_from (all - at) names place) ≡ []
name_most all at names place over =
    let none : all - at ≡ 0 = omega (arith, over) in
    rw none (ap name_rows (names_end names place))
