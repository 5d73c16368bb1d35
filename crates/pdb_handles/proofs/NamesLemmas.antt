-- Where a name stands in the stream of its table.
use Rattle.std.proofs.Common.{◌≡◌, ℕ, ◌+◌, List, ◌∷◌, ◌++◌, length, take, drop, sym, ap, ◌∙◌, Ok}
use Rattle.std.proofs.Math.Seq.{drop-append_seam, take-append_seam}
use Rattle.std.proofs.lemmas.List.{append_assoc, drop-drop, take-append-drop}
use Rattle.pdb_base.proofs.lemmas.Collected.{ok_is, bind_ok}
use Rattle.pdb_space.specs.{StringTable.name_of, StringTableLaws.FindsName, StringTableLaws.FindsNames}
use Rattle.pdb_handles.specs.{declared.names.NamePlace.NamePlace, Names.StandsAtItsPlace}

-- a part of what stands at the front of some bytes
part_there : (bytes before part behind : List ℕ) (n : ℕ) → take n bytes ≡ (before ++ part) ++ behind
    → take (length part) (drop (length before) bytes) ≡ part
part_there bytes before part behind n is =
    let rest = drop n bytes in
    let whole : bytes ≡ ((before ++ part) ++ behind) ++ rest =
    sym (take-append-drop n bytes) ∙ ap (λ (front : List ℕ). front ++ rest) is in
    ap (λ (b : List ℕ). take (length part) (drop (length before) b)) whole
    ∙ rw (append_assoc (before ++ part) behind rest) (rw (append_assoc before part (behind ++ rest))
    (rw drop-append_seam (take-append_seam part (behind ++ rest))))

pub stands : (finds_names : (stream : List ℕ) → FindsNames stream)
    (finds_name : (names : List ℕ) (offset : ℕ) → FindsName names offset)
    → (stream : List ℕ) (offset : ℕ) → StandsAtItsPlace stream offset
stands finds_names finds_name stream offset names place held placed =
    let found = bind_ok (name_of names offset) _ place placed in
    let name = found.0 in
    let here = (finds_name names offset).found name found.1 in
    let holds = (finds_names stream).found names held in
    let cut = part_there (drop 12 stream) here.before name (0 ∷ here.behind) (length names)
    (holds.behind ∙ sym here.is) in
    let there : take (length name) (drop (12 + offset) stream) ≡ name =
    ap (take (length name))
    (sym (drop-drop offset 12 stream) ∙ ap (λ (n : ℕ). drop n (drop 12 stream)) (sym here.place)) ∙ cut in
    let is = ok_is {A = NamePlace} _ place found.2 in
    found.1 ∙ ap (λ (bytes : List ℕ). Ok bytes)
    (sym there ∙ ap (λ (p : NamePlace). take p.length (drop p.offset stream)) is)
