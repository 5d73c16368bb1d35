-- What the search for an address has found, in the words of tables and ranges.
use Rattle.std.proofs.Common.{◌≡◌, ℕ, zero, suc, ◌-◌, ◌/◌, ◌<◌, ◌≤◌, true, false, leb, List, [], ◌∷◌, length, get_or}
use Rattle.std.proofs.Common.{drop, refl, sym, ap, subst, ◌∙◌, arith, Some, None, Option}
use Rattle.std.specs.declared.ops.Range.{Range}
use Rattle.std.specs.List.{filter, last_or, Contains}
use Rattle.std.proofs.lemmas.Bool.{le-leb, lt-leb}
use Rattle.std.proofs.lemmas.List.{get_or-map}
use Rattle.std.proofs.lemmas.List.Elements.{Contains-get_or}
use Rattle.std.proofs.lemmas.List.Sorted.{IsNonDecreasingBy-drop}
use Rattle.pdb_base.specs.Halving.{Rises, IsFound}
use Rattle.pdb_base.proofs.lemmas.Records.{spelled_length}
use Rattle.pdb_space.specs.Omap.{OmapValue, IsSortedBySource, last_at_or_below, mapping_of, mappings_of, shift}
use Rattle.pdb_space.specs.Omap.{source_at, target_at}
use Rattle.pdb_space.specs.Ranges.{parts, parts_until, end_to_end, pointwise}
use Rattle.pdb_space.proofs.RangeLemmas.{part-none, parts_until_sorted, parts_are_pointwise}

nowhere : OmapValue
nowhere = record { source = 0; target = 0 }

abbrev pub mapping_with : ℕ → ℕ → OmapValue
mapping_with source target = record { source = source; target = target }

rising : (table : List OmapValue) → IsSortedBySource table → Rises (source_at table) (length table)
rising table sorted i j up within =
    let first = get_or-map (λ (m : OmapValue). m.source) table i nowhere 0 (omega (arith, up, within)) in
    let later = get_or-map (λ (m : OmapValue). m.source) table j nowhere 0 within in
    rw (first, later) (sorted i j nowhere up within)

-- what was found among the records that bytes hold, in the words of the table
pub found_in : (bytes : List ℕ) (table : List OmapValue) (address place last : ℕ) → mappings_of bytes ≡ table
    → IsFound (source_at (mappings_of bytes)) (length bytes / 8) address place last
    → IsFound (source_at table) (length table) address place last
found_in bytes table address place last is found =
    let number : length bytes / 8 ≡ length (mappings_of bytes) = sym (spelled_length 8 mapping_of bytes) in
    subst (λ (t : List OmapValue). IsFound (source_at t) (length t) address place last) is
    (subst (λ (n : ℕ). IsFound (source_at (mappings_of bytes)) n address place last) number found)

-- ---- the last record at or below the address

-- records above it change nothing
last-none : (table : List OmapValue) (found : Option OmapValue) (address : ℕ)
    → ((k : ℕ) → k < length table → address < source_at table k)
    → last_or found (filter (λ m. leb m.source address) table) ≡ found
last-none [] found address above = refl
last-none (mapping ∷ table) found address above =
    let test : leb mapping.source address ≡ false = lt-leb mapping.source address (above 0 (omega arith)) in
    rw test (last-none table found address (λ k within. above (suc k) (omega (arith, within))))

-- of records at or below it, with others above it behind them, the last one counts
last-some : (k : ℕ) (table : List OmapValue) (found : Option OmapValue) (address : ℕ) → k < length table
    → ((j : ℕ) → j ≤ k → source_at table j ≤ address)
    → ((j : ℕ) → k < j → j < length table → address < source_at table j)
    → last_or found (filter (λ m. leb m.source address) table) ≡ Some (get_or table k nowhere)
last-some k [] found address within below above = absurd (omega (arith, within))
last-some zero (mapping ∷ table) found address within below above =
    let test : leb mapping.source address ≡ true = le-leb mapping.source address (below 0 (omega arith)) in
    rw test (last-none table (Some mapping) address (λ j behind. above (suc j) (omega arith) (omega (arith, behind))))
last-some (suc k) (mapping ∷ table) found address within below above =
    let test : leb mapping.source address ≡ true = le-leb mapping.source address (below 0 (omega arith)) in
    rw test (last-some k table (Some mapping) address (omega (arith, within))
    (λ j before. below (suc j) (omega (arith, before)))
    (λ j behind inside. above (suc j) (omega (arith, behind)) (omega (arith, inside))))

-- the record that stands before the place found
entry : (table : List OmapValue) (k last : ℕ) → k < length table → source_at table k ≡ last
    → get_or table k nowhere ≡ mapping_with last (target_at table k)
entry table k last within is =
    let source = sym (get_or-map (λ (m : OmapValue). m.source) table k nowhere 0 within) ∙ is in
    let target = sym (get_or-map (λ (m : OmapValue). m.target) table k nowhere 0 within) in
    ap (λ (s : ℕ). mapping_with s (get_or table k nowhere).target) source ∙ ap (λ (t : ℕ). mapping_with last t) target

pub none_found : (table : List OmapValue) (address place last : ℕ)
    → IsFound (source_at table) (length table) address place last → place ≡ 0 → IsSortedBySource table
    → None ≡ last_at_or_below table address
none_found table address place last found none sorted =
    sym (last-none table None address (λ k within. found.above (rising table sorted) k (omega (arith, none)) within))

pub last_found : (table : List OmapValue) (address place last : ℕ)
    → IsFound (source_at table) (length table) address place last → 0 < place → IsSortedBySource table
    → Some (mapping_with last (target_at table (place - 1))) ≡ last_at_or_below table address
last_found table address place last found some sorted =
    let within : place - 1 < length table = omega (arith, some, found.within) in
    sym (
    last-some (place - 1) table None address within
    (λ j before. found.below (rising table sorted) j (omega (arith, before, some)))
    (λ j behind inside. found.above (rising table sorted) j (omega (arith, behind)) inside)
    ∙ ap (λ (m : OmapValue). Some m) (entry table (place - 1) last within (found.before some).0))

pub some_found : (table : List OmapValue) (address place last : ℕ)
    → IsFound (source_at table) (length table) address place last → 0 < place
    → Contains table (mapping_with last (target_at table (place - 1))) × (last ≤ address)
some_found table address place last found some =
    let within : place - 1 < length table = omega (arith, some, found.within) in
    let known = found.before some in (
      subst (λ (m : OmapValue). Contains table m) (entry table (place - 1) last within known.0)
          (Contains-get_or table (place - 1) nowhere within),
      known.1,
    )

-- ---- ranges begin at the record before the place found

-- records whose addresses end at or before the range have no part of it
parts-drop : (passed : ℕ) (table : List OmapValue) (asked : Range ℕ)
    → ((k : ℕ) → k < passed → (suc k < length table) × (source_at table (suc k) ≤ asked.start))
    → parts (drop passed table) asked ≡ parts table asked
parts-drop zero table asked ended = refl
parts-drop (suc passed) [] asked ended = refl
parts-drop (suc passed) (mapping ∷ []) asked ended = absurd (omega (arith, (ended 0 (omega arith)).0))
parts-drop (suc passed) (mapping ∷ next ∷ table) asked ended =
    let none = part-none mapping next.source asked.start asked.end (omega (arith, (ended 0 (omega arith)).1)) in
    rw none (parts-drop passed (next ∷ table) asked
    (λ k before. (
      omega (arith, (ended (suc k) (omega (arith, before))).0),
      (ended (suc k) (omega (arith, before))).1,
    )))

pub found_parts : (table : List OmapValue) (asked : Range ℕ) (place last : ℕ)
    → IsFound (source_at table) (length table) asked.start place last → IsSortedBySource table
    → parts_until (drop (place - 1) table) asked ≡ parts table asked
found_parts table asked place last found sorted =
    parts_until_sorted (drop (place - 1) table) asked (IsNonDecreasingBy-drop (λ m. m.source) (place - 1) table sorted)
    ∙ parts-drop (place - 1) table asked (λ k before. (
      omega (arith, before, found.within),
      found.below (rising table sorted) (suc k) (omega (arith, before)),
    ))

pub found_laid : (table : List OmapValue) (asked : Range ℕ) (place last : ℕ)
    → IsFound (source_at table) (length table) asked.start place last → IsSortedBySource table
    → end_to_end (parts_until (drop (place - 1) table) asked) ≡ pointwise (shift table) asked
found_laid table asked place last found sorted =
    ap end_to_end (found_parts table asked place last found sorted) ∙ parts_are_pointwise table asked sorted
