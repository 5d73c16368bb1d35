-- Rows and their names, as they are made one after another.
use Rattle.std.proofs.Common.{◌≡◌, ℕ, suc, ◌+◌, ◌<◌, List, [], ◌∷◌, ◌++◌, length, map, take, get_or, sym, ap, ◌∙◌}
use Rattle.std.proofs.Common.{arith}
use Rattle.std.proofs.Math.Seq.{take-suc}
use Rattle.std.proofs.lemmas.List.{flat_map_more, length-append, map-append}
use Rattle.pdb_handles.specs.Listing.{ended_names, placed_rows}

-- one row more: its name begins behind those so far
rows_more : {X R : Type 0} (row : ℕ → X → R) (name : X → List ℕ) (here : ℕ) (things : List X) (thing : X)
    → placed_rows row name here (things ++ thing ∷ [])
    ≡ placed_rows row name here things ++ row (here + length (ended_names name things)) thing ∷ []
unfolding placed_rows
rows_more row name here [] thing =
    let same : here ≡ here + 0 = omega arith in ap (λ (n : ℕ). row n thing ∷ []) same
rows_more row name here (first ∷ things) thing =
    let next = here + (length (name first) + 1) in
    let one = length-append (name first) (0 ∷ []) in
    let all = length-append (name first ++ 0 ∷ []) (ended_names name things) in
    let same : next + length (ended_names name things) ≡ here + length (ended_names name (first ∷ things)) =
    omega (arith, one, all) in
    ap (λ rows. row here first ∷ rows) (rows_more row name next things thing
    ∙ ap (λ (n : ℕ). placed_rows row name next things ++ row n thing ∷ []) same)

-- the rows and the names of the first things, once those of one more are appended
pub listed_more : {X Y R : Type 0} (view : Y → X) (row : ℕ → X → R) (name : X → List ℕ) (things : List Y) (i : ℕ)
    (thing d : Y) (rows more : List R) (names longer bytes : List ℕ) (made : R) (here : ℕ)
    → i < length things → thing ≡ get_or things i d
    → rows ≡ placed_rows row name 0 (map view (take i things)) → names ≡ ended_names name (map view (take i things))
    → here ≡ length names → made ≡ row here (view thing) → more ≡ rows ++ made ∷ []
    → bytes ≡ name (view thing) → longer ≡ names ++ (bytes ++ 0 ∷ [])
    → (more ≡ placed_rows row name 0 (map view (take (i + 1) things)))
    × (longer ≡ ended_names name (map view (take (i + 1) things)))
listed_more {X} {Y} {R} view row name things i y d rows more names longer bytes made here lt it rs ns at is put b add =
    let front = map view (take i things) in
    let next : i + 1 ≡ suc i = omega arith in
    let one : take (i + 1) things ≡ take i things ++ y ∷ [] = ap (λ (n : ℕ). take n things) next
    ∙ take-suc things i d lt ∙ ap (λ (z : Y). take i things ++ z ∷ []) (sym it) in
    let seen : map view (take (i + 1) things) ≡ front ++ view y ∷ [] =
    ap (map view) one ∙ map-append view (take i things) (y ∷ []) in
    let lengths = ap (λ (n : List ℕ). length n) ns in
    let place : here ≡ 0 + length (ended_names name front) = omega (arith, lengths, at) in (
      put ∙ ap (λ (r : List R). r ++ made ∷ []) rs
          ∙ ap (λ (r : R). placed_rows row name 0 front ++ r ∷ []) (is ∙ ap (λ (n : ℕ). row n (view y)) place)
          ∙ sym (rows_more row name 0 front (view y)) ∙ sym (ap (placed_rows row name 0) seen),
      add ∙ ap (λ (l : List ℕ). names ++ (l ++ 0 ∷ [])) b ∙ ap (λ (n : List ℕ). n ++ (name (view y) ++ 0 ∷ [])) ns
          ∙ flat_map_more (λ x. name x ++ 0 ∷ []) [] front (view y) ∙ sym (ap (ended_names name) seen),
    )
