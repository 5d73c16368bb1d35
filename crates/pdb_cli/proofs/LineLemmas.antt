-- Lines of hexadecimal digits, one after another.
use Rattle.std.specs.Int.{div_ceil}
use Rattle.std.proofs.Common.{◌≡◌, ℕ, ◌+◌, ◌-◌, ◌*◌, ◌<◌, ◌≤◌, List, [], ◌∷◌, ◌++◌, length, map, take}
use Rattle.std.proofs.Common.{drop, sym, ap, ◌∙◌, arith, min, Option}
use Rattle.std.specs.Global.{Vec}
use Rattle.std.specs.Option.{option_map}
use Rattle.std.specs.List.{flat_map, range_with_len}
use Rattle.std.proofs.lemmas.Grind.{flat_map-append}
use Rattle.std.proofs.lemmas.List.Folds.{flat_map-map}
use Rattle.std.proofs.Math.Seq.{take-append_seam, drop-append_seam}
use Rattle.std.proofs.lemmas.List.{append-nil, take_all, map-id, take_min, drop_min, drop-drop, length-drop}
use Rattle.std.proofs.lemmas.List.FromFn.{map-range_with_len_more}
use Rattle.pdb_cli.specs.Lines.{line, hex_line, line_of, name_text, name_lines}

range_more : (n : ℕ) → range_with_len 0 (n + 1) ≡ range_with_len 0 n ++ n ∷ []
range_more n =
    sym (map-id (range_with_len 0 (n + 1))) ∙ map-range_with_len_more (λ (x : ℕ). x) 0 n n (omega arith)
    ∙ ap (λ (r : List ℕ). r ++ n ∷ []) (map-id (range_with_len 0 n))

-- the lines of bytes up to one
abbrev pub lines_to : List ℕ → ℕ → List ℕ
lines_to all n = flat_map (λ k. hex_line (line_of all k)) (range_with_len 0 n)

pub lines_more : (all : List ℕ) (n : ℕ) → lines_to all (n + 1) ≡ lines_to all n ++ hex_line (line_of all n)
lines_more all n =
    ap (flat_map (λ k. hex_line (line_of all k))) (range_more n)
    ∙ flat_map-append (λ k. hex_line (line_of all k)) (range_with_len 0 n) (n ∷ [])
    ∙ ap (λ (r : List ℕ). lines_to all n ++ r) (append-nil (hex_line (line_of all n)))

-- the next of the pieces of what is left is the next line, and behind it stands what is left then
pub piece_is_line : (all piece rest : List ℕ) (n : ℕ) → drop (32 * n) all ≡ piece ++ rest
    → length piece ≡ min 32 (length (drop (32 * n) all))
    → (piece ≡ line_of all n) × (rest ≡ drop (32 * (n + 1)) all)
piece_is_line all piece rest n is long =
    let left = drop (32 * n) all in (
      sym (take-append_seam piece rest) ∙ ap (λ (k : ℕ). take k (piece ++ rest)) long
          ∙ ap (λ (xs : List ℕ). take (min 32 (length left)) xs) (sym is) ∙ take_min 32 left,
      sym (drop-append_seam piece rest) ∙ ap (λ (k : ℕ). drop k (piece ++ rest)) long
          ∙ ap (λ (xs : List ℕ). drop (min 32 (length left)) xs) (sym is)
          ∙ drop_min 32 left ∙ drop-drop 32 (32 * n) all ∙ ap (λ (k : ℕ). drop k all) (omega arith),
    )

-- as long as something is left there is another line
pub line_left : (all : List ℕ) (n : ℕ) → 0 < length (drop (32 * n) all) → n ≤ div_ceil (length all) 32
    → n + 1 ≤ div_ceil (length all) 32
line_left all n some most = omega (arith, some, most, length-drop (32 * n) all)

-- the line of a name that a reply holds
abbrev pub held_line : Option (Vec ℕ) → List ℕ
held_line name = line (name_text (option_map (λ copy. copy.items) name))

-- and the lines of all names
pub name_lines_whole : (names : List (Option (Vec ℕ))) (i : ℕ) (out : List ℕ) → length names ≤ i
    → out ≡ flat_map held_line (take i names)
    → out ≡ name_lines (map (λ name. option_map (λ copy. copy.items) name) names)
unfolding name_lines
name_lines_whole names i out past is =
    is ∙ ap (flat_map held_line) (take_all i names past)
    ∙ sym (flat_map-map (λ (name : Option (List ℕ)). line (name_text name))
    (λ (name : Option (Vec ℕ)). option_map (λ copy. copy.items) name) names)
