-- Names that together are longer than a limit.
use Rattle.std.proofs.Common.{◌≡◌, ℕ, ◌+◌, ◌<◌, false, nat_le, List, length, map, take, get_or, ap, arith}
use Rattle.std.specs.List.{take-map}
use Rattle.std.proofs.lemmas.Bool.Decides.{nat_tests}
use Rattle.std.proofs.lemmas.List.{get_or-map, length-map}
use Rattle.std.proofs.lemmas.List.Folds.{length-flat_map-take}
use Rattle.pdb_file.specs.StreamNames.{Named, named_view}
use Rattle.pdb_file.specs.declared.stream_names.StreamName.{StreamName}
use Rattle.pdb_handles.specs.StreamNames.{names_of_all}

-- the names up to one that no longer fits are too long, and so are all
pub too_long : (streams : List StreamName) (i left limit size : ℕ) (d : StreamName) → i < length streams
    → left + length (names_of_all (map named_view (take i streams))) ≡ limit
    → size ≡ length (named_view (get_or streams i d)).name → left < size
    → false ≡ nat_le (length (names_of_all (map named_view streams))) limit
too_long streams i left limit size d within so_far is more =
    let all = map named_view streams in
    let bound = length-flat_map-take (λ (named : Named). named.name) all i (named_view d)
    (omega (arith, within, length-map streams named_view)) in
    let before : length (names_of_all (take i all)) ≡ length (names_of_all (map named_view (take i streams))) =
    ap (λ (named : List Named). length (names_of_all named)) (take-map named_view i streams) in
    let here : length (get_or all i (named_view d)).name ≡ length (named_view (get_or streams i d)).name =
    ap (λ (named : Named). length named.name) (get_or-map named_view streams i d (named_view d) within) in
    let past : limit < length (names_of_all all) = omega (arith, bound, before, here, so_far, is, more) in
    grind (arith, nat_tests, past)
