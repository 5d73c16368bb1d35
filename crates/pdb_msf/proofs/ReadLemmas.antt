-- Bytes that are read from a file at an offset.
use Rattle.std.proofs.Common.{◌≡◌, ℕ, ◌+◌, ◌<◌, ◌≤◌, min, List, ◌++◌, length, take, drop, map, refl}
use Rattle.std.proofs.Common.{sym, ap, subst, ◌∙◌, arith, slice_index, inl, inr, append_assoc, get_or}
use Rattle.std.specs.Prelude.{IsTrue}
use Rattle.std.specs.List.{range_with_len}
use Rattle.std.proofs.lemmas.Bool.{cases_lt}
use Rattle.std.proofs.lemmas.Bool.Decides.{nat_tests}
use Rattle.std.proofs.lemmas.List.{map-append, length-take-le, length-drop, take-append-le, take_all, take_more}
use Rattle.pdb_msf.specs.declared.source.SourceSlice.{SourceSlice}
use Rattle.pdb_msf.specs.Source.{positions, slice_positions}
use Rattle.pdb_msf.specs.Within.{is_within}
use Rattle.pdb_msf.specs.ReadAt.{FileContents, IsRead, bytes_from, memory_file}
use Rattle.pdb_msf.proofs.PositionLemmas.{nowhere, part_by_places, positions_push, take-append-ge}
use Rattle.pdb_msf.proofs.SliceLemmas.{range_joined}

-- the first bytes of a file from an offset on
pub front_from : (file : List ℕ) (offset count : ℕ) → count ≤ length (drop offset file)
    → take count (drop offset file) ≡ map (slice_index file) (range_with_len offset count)
front_from file offset count fits =
    let rest = length-drop offset file in
    elim (cases_lt offset (length file)) [
      | inl before ↦ sym (part_by_places file offset count (omega arith))
      | inr past ↦ let none : count ≡ 0 = omega arith in rw none refl
    ]

-- as many of them as there is room for are read from a file in memory
pub front_read : (file room : List ℕ) (offset count : ℕ) → count ≡ min (length (drop offset file)) (length room)
    → IsRead (memory_file file) offset (length room) (take count (drop offset file) ++ drop count room) count
front_read file room offset count is =
    let rest = length-drop offset file in
    let fits : count ≤ length (drop offset file) = omega arith in
    let long : length (take count (drop offset file)) ≡ count = length-take-le count (drop offset file) fits in
    record {
      within = omega arith;
      bytes = λ fixed.
          take-append-le count (take count (drop offset file)) (drop count room) (omega arith)
          ∙ take_all count (take count (drop offset file)) (omega arith)
          ∙ front_from file offset count fits;
      some = λ sound there wide. omega arith;
    }

-- a read of a file that is as it was
pub same_read : (file again : FileContents) (offset room same : ℕ) (read : List ℕ) (count : ℕ) → again ≡ file
    → same ≡ room → IsRead again offset same read count → IsRead file offset room read count
same_read file again offset room same read count is long found =
    subst (λ (f : FileContents). IsRead f offset room read count) is
    (subst (λ (n : ℕ). IsRead again offset n read count) long found)

-- bytes of a file, and the next ones behind them
pub read_more : (file : FileContents) (offset size more : ℕ)
    → bytes_from file offset size ++ bytes_from file (offset + size) more ≡ bytes_from file offset (size + more)
read_more file offset size more =
    sym (ap (map (slice_index file.bytes)) (range_joined offset size more)
    ∙ map-append (slice_index file.bytes) (range_with_len offset size) (range_with_len (offset + size) more))

-- room that is filled up to a place, and from there on by the next read
pub filled_more : (file : FileContents) (offset filled count : ℕ) (room read rest : List ℕ) → filled ≤ length room
    → count ≤ length read
    → take filled room ≡ bytes_from file offset filled → take count read ≡ bytes_from file (offset + filled) count
    → take (filled + count) (take filled room ++ (read ++ rest)) ≡ bytes_from file offset (filled + count)
filled_more file offset filled count room read rest within fits front next =
    let long : length (take filled room) ≡ filled = length-take-le filled room within in
    take-append-ge (filled + count) (take filled room) (read ++ rest) (omega arith)
    ∙ ap (λ (n : ℕ). take filled room ++ take n (read ++ rest)) (omega arith)
    ∙ ap (λ (bytes : List ℕ). take filled room ++ bytes) (take-append-le count read rest fits)
    ∙ ap (λ (bytes : List ℕ). bytes ++ take count read) front
    ∙ ap (λ (bytes : List ℕ). bytes_from file offset filled ++ bytes) next
    ∙ read_more file offset filled count

-- bytes that are appended piece by piece
pub appended_more : (file : FileContents) (offset size more : ℕ) (first old new : List ℕ)
    → old ≡ first ++ bytes_from file offset size → new ≡ old ++ bytes_from file (offset + size) more
    → new ≡ first ++ bytes_from file offset (size + more)
appended_more file offset size more first old new is added =
    added
    ∙ ap (λ (bytes : List ℕ). bytes ++ bytes_from file (offset + size) more) is
    ∙ append_assoc first (bytes_from file offset size) (bytes_from file (offset + size) more)
    ∙ ap (λ (bytes : List ℕ). first ++ bytes) (read_more file offset size more)

-- a run that a slice continues
pub slices_more : (file : List ℕ) (slices : List SourceSlice) (i : ℕ) (run next : SourceSlice) (old new : List ℕ)
    → i < length slices
    → old ++ map (slice_index file) (slice_positions run) ≡ map (slice_index file) (positions (take i slices))
    → new ++ map (slice_index file) (slice_positions next)
    ≡ old ++ map (slice_index file) (slice_positions run ++ slice_positions (get_or slices i nowhere))
    → new ++ map (slice_index file) (slice_positions next) ≡ map (slice_index file) (positions (take (i + 1) slices))
slices_more file slices i run next old new within before is =
    let slice = get_or slices i nowhere in
    let idx = map (slice_index file) in
    is
    ∙ ap (λ (bytes : List ℕ). old ++ bytes)
    (map-append (slice_index file) (slice_positions run) (slice_positions slice))
    ∙ sym (append_assoc old (idx (slice_positions run)) (idx (slice_positions slice)))
    ∙ ap (λ (bytes : List ℕ). bytes ++ idx (slice_positions slice)) before
    ∙ sym (map-append (slice_index file) (positions (take i slices)) (slice_positions slice))
    ∙ sym (ap idx (ap positions (take_more slices i nowhere within) ∙ positions_push (take i slices) slice))

-- two slices of which the second begins where the first ends
pub joined_within : (len : ℕ) (run slice : SourceSlice) → IsTrue (is_within len run) → IsTrue (is_within len slice)
    → run.offset + run.size ≡ slice.offset
    → IsTrue (is_within len (record { offset = run.offset; size = run.size + slice.size }))
joined_within len run slice first second meets = grind (arith, nat_tests)

pub joined_positions : (run slice : SourceSlice) → run.offset + run.size ≡ slice.offset
    → range_with_len run.offset (run.size + slice.size) ≡ slice_positions run ++ slice_positions slice
joined_positions run slice meets =
    range_joined run.offset run.size slice.size
    ∙ ap (λ (n : ℕ). slice_positions run ++ range_with_len n slice.size) meets
